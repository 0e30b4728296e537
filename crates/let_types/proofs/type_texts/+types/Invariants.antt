use Rattle.std.proofs.Common.{◌≡◌, ◌-◌, ◌++◌, drop}
use Rattle.c_terms.specs.Read.{ctys}
use Rattle.let_types.specs.TypeTexts.{texts_after}
use Rattle.let_types.proofs.type_texts.+types.Given as goal

-- the text so far, with what is left, is the whole
abbrev pub invariant-write_from-loop-i : goal.invariant-write_from-loop-i
invariant-write_from-loop-i l =
    l.text.items ++ texts_after l.closures (l.i - l.from) l.depth (ctys (drop l.i l.ts)) ≡ l.initial.text.items
    ++ texts_after l.closures 0 l.depth (ctys (drop l.from l.ts))
