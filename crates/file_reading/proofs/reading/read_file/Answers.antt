use Rattle.file_reading.proofs.reading.read_file.Goals as goal

pub returns-clause-front : goal.returns-clause-front
returns-clause-front g c = c.read_opened.ensures.front _ _ c.in_ok-open_file.ensures.ok
