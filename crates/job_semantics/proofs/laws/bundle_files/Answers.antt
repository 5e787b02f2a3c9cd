use Rattle.job_semantics.proofs.BundleFiles.{bundle_names-differ, bundle_files-holds, bundle_files-others}
use Rattle.job_semantics.proofs.laws.bundle_files.Goals as goal

pub returns : goal.returns
returns c = record { differ = bundle_names-differ; holds = bundle_files-holds; others = bundle_files-others }
