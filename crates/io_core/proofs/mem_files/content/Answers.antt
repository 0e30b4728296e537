use Rattle.std.proofs.Common.{ap, sym, Some, ◌∙◌, Vec, ℕ}
use Rattle.std.specs.Option.{option_map}
use Rattle.std.specs.declared.alloc.Global.{Global}
use Rattle.io_core.proofs.FileMapLemmas.{get-file_map}
use Rattle.io_core.proofs.mem_files.content.Goals as goal

pub returns-in-Some : goal.returns-in-Some
returns-in-Some c =
    ap (λ b. Some b) c.as_slice.ensures.value
    ∙ ap (option_map (λ (v : Vec ℕ Global). v.items)) c.in-Some.ensures.value
    ∙ sym (get-file_map c.args.files.now c.args.name.now)

pub returns-in-None : goal.returns-in-None
returns-in-None c =
    ap (option_map (λ (v : Vec ℕ Global). v.items)) c.in-None.ensures.value
    ∙ sym (get-file_map c.args.files.now c.args.name.now)
