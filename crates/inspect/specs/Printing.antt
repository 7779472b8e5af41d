-- What an opened frame holds, and what is printed for one and for a refused one. Assumes nothing.
use Rattle.std.specs.Prelude.{ℕ, ◌*◌, List, take, Ok, Err, Result}
use Rattle.frame.specs.declared.fault.FrameFault.{FrameFault}
use Rattle.frame.specs.Frames.{Fields}
use Rattle.inspect.specs.declared.opened.Opened.{Opened}
use Rattle.inspect.specs.declared.explain.Explanation.{Explanation}
use Rattle.inspect.specs.Explanations.{explained, refused_line}

-- eight bytes for each block
abbrev pub payload_in : Opened → List ℕ
payload_in opened = take (8 * opened.header.size) opened.work

abbrev pub fields_in : Opened → Fields
fields_in opened = record { header = opened.header; payload = payload_in opened }

abbrev pub told_text : Result Opened FrameFault → List ℕ
told_text (Ok opened) = explained (fields_in opened)
told_text (Err fault) = refused_line fault

abbrev pub explanation_text : Explanation → List ℕ
explanation_text explanation = told_text explanation.0
