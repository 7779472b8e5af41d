-- What is said of a layer and of a short buffer. Assumes nothing.
use Rattle.std.specs.Prelude.{ℕ, List, codes}
use Rattle.refusal.specs.declared.Layer.{Layer}
use Rattle.refusal.specs.declared.Layer.TheVariants.{Call, Line as line-layer, Frame as frame-layer, Body as body-layer}

abbrev pub layer_name : Layer → List ℕ
layer_name Call = codes "Call"
layer_name line-layer = codes "Line"
layer_name frame-layer = codes "Frame"
layer_name body-layer = codes "Body"

abbrev pub short_buffer_words : List ℕ
short_buffer_words = codes "a buffer is too short"
