-- What the outside tells before and after a call.
use Rattle.outside_semantics.specs.Outside.{FilesTold, SinkTold}

-- what files and sink tell before the call, and what they tell after it
pub record Call : Type 0 where
  pub old : FilesTold
  pub new : FilesTold
  pub said : SinkTold
  pub says : SinkTold
