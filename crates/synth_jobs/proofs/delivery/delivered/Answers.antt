use Rattle.std.proofs.Common.{refl}
use Rattle.synth_jobs.proofs.Written.{BundleWritten-from, BundleCutShort-from}
use Rattle.synth_jobs.proofs.delivery.delivered.Goals as goal

pub returns-in-Ok : goal.returns-in-Ok
returns-in-Ok g c = λ r ready. BundleWritten-from refl ready c.in-Ok.ensures.ok

pub returns-in-Err : goal.returns-in-Err
returns-in-Err g c = λ r ready. BundleCutShort-from refl ready c.in-Err.ensures.err
