-- What is to be done with two nets, as the definitions have it.
use Rattle.job_semantics.specs.Synthesis as synthesis
use Rattle.synth_jobs.specs.declared.request.Request.{Request}

abbrev pub told_request : Request → synthesis.Request
told_request r = synthesis.request_of r.task r.aim r.exact r.begin
