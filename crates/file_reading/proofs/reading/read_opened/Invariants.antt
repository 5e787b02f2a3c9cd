use Rattle.std.proofs.Common.{◌≡◌}
use Rattle.file_reading.specs.Reading.{SoFar}
use Rattle.file_reading.proofs.reading.read_opened.Given as goal

abbrev pub invariant-loop-turn : goal.invariant-loop-turn
invariant-loop-turn g l =
    SoFar (g.F.Files.told l.initial.files) (g.F.Files.told l.files) (g.I.Intake.text l.intake) l.turn
    × (g.I.Intake.aim l.intake ≡ g.I.Intake.aim l.initial.intake)
