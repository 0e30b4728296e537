use Rattle.std.proofs.Common.{◌≡◌, [], ◌∷◌, slice_get, Some, refl, sym, ◌∙◌}
use Rattle.text_core.specs.Table.{Nt}
use Rattle.text_core.specs.Going.{at_the_end, other}
use Rattle.t_text.specs.GrammarTable.{LI}
use Rattle.t_shapes.proofs.Stepping.{start, stop_lacks}
use Rattle.t_shapes.proofs.Lines.{no_step}
use Rattle.t_shapes.specs.Reads.{arith_left, bnz_left, mov_left, ld_left, malloc_left, st_left, unpack_left}
use Rattle.idx_core.specs.declared.arith.Op.TheVariants.{Add, Sub, Mul}
use Rattle.t_shapes.proofs.Stepped.{as_step}
use Rattle.t_text.specs.Kept.{tokens_of}
use Rattle.t_shapes.proofs.steps.step.Goals as goal

pub returns-in-None : goal.returns-in-None
returns-in-None c =
    let ts = tokens_of c.args.tokens.now in
    let i = c.args.at in
    stop_lacks _ LI [] [] (start ts 0 i (Nt LI ∷ [])) refl (at_the_end (sym c.peek.ensures ∙ c.in-None.is)) refl

pub returns-in-Add : goal.returns-in-Add
returns-in-Add c =
    let ts = tokens_of c.args.tokens.now in
    let i = c.args.at in
    let e : slice_get ts i ≡ Some c.in-Some.word = sym c.peek.ensures ∙ c.in-Some.is in
    as_step ts i c.in-Some.word (arith_left Add) _ e (rw c.in-Add.is refl) refl c.arith.ensures

pub returns-in-Sub : goal.returns-in-Sub
returns-in-Sub c =
    let ts = tokens_of c.args.tokens.now in
    let i = c.args.at in
    let e : slice_get ts i ≡ Some c.in-Some.word = sym c.peek.ensures ∙ c.in-Some.is in
    as_step ts i c.in-Some.word (arith_left Sub) _ e (rw c.in-Sub.is refl) refl c.arith-in-Sub.ensures

pub returns-in-Mul : goal.returns-in-Mul
returns-in-Mul c =
    let ts = tokens_of c.args.tokens.now in
    let i = c.args.at in
    let e : slice_get ts i ≡ Some c.in-Some.word = sym c.peek.ensures ∙ c.in-Some.is in
    as_step ts i c.in-Some.word (arith_left Mul) _ e (rw c.in-Mul.is refl) refl c.arith-in-Mul.ensures

pub returns-in-Bnz : goal.returns-in-Bnz
returns-in-Bnz c =
    let ts = tokens_of c.args.tokens.now in
    let i = c.args.at in
    let e : slice_get ts i ≡ Some c.in-Some.word = sym c.peek.ensures ∙ c.in-Some.is in
    as_step ts i c.in-Some.word (bnz_left) _ e (rw c.in-Bnz.is refl) refl c.bnz.ensures

pub returns-in-Ld : goal.returns-in-Ld
returns-in-Ld c =
    let ts = tokens_of c.args.tokens.now in
    let i = c.args.at in
    let e : slice_get ts i ≡ Some c.in-Some.word = sym c.peek.ensures ∙ c.in-Some.is in
    as_step ts i c.in-Some.word (ld_left) _ e (rw c.in-Ld.is refl) refl c.ld.ensures

pub returns-in-Malloc : goal.returns-in-Malloc
returns-in-Malloc c =
    let ts = tokens_of c.args.tokens.now in
    let i = c.args.at in
    let e : slice_get ts i ≡ Some c.in-Some.word = sym c.peek.ensures ∙ c.in-Some.is in
    as_step ts i c.in-Some.word (malloc_left) _ e (rw c.in-Malloc.is refl) refl c.malloc.ensures

pub returns-in-Mov : goal.returns-in-Mov
returns-in-Mov c =
    let ts = tokens_of c.args.tokens.now in
    let i = c.args.at in
    let e : slice_get ts i ≡ Some c.in-Some.word = sym c.peek.ensures ∙ c.in-Some.is in
    as_step ts i c.in-Some.word (mov_left) _ e (rw c.in-Mov.is refl) refl c.mov.ensures

pub returns-in-St : goal.returns-in-St
returns-in-St c =
    let ts = tokens_of c.args.tokens.now in
    let i = c.args.at in
    let e : slice_get ts i ≡ Some c.in-Some.word = sym c.peek.ensures ∙ c.in-Some.is in
    as_step ts i c.in-Some.word (st_left) _ e (rw c.in-St.is refl) refl c.st.ensures

pub returns-in-Unpack : goal.returns-in-Unpack
returns-in-Unpack c =
    let ts = tokens_of c.args.tokens.now in
    let i = c.args.at in
    let e : slice_get ts i ≡ Some c.in-Some.word = sym c.peek.ensures ∙ c.in-Some.is in
    as_step ts i c.in-Some.word (unpack_left) _ e (rw c.in-Unpack.is refl) refl c.unpack.ensures

pub returns-in_default : goal.returns-in_default
returns-in_default c =
    let ts = tokens_of c.args.tokens.now in
    let i = c.args.at in
    let e : slice_get ts i ≡ Some c.in-Some.word = sym c.peek.ensures ∙ c.in-Some.is in
    let n = c.in_default in
    stop_lacks _ LI [] [] (start ts 0 i (Nt LI ∷ [])) refl
    (other c.in-Some.word e
    (no_step c.in-Some.word.kind n.not-Add n.not-Sub n.not-Mul n.not-Bnz n.not-Ld n.not-Malloc n.not-Mov n.not-St
    n.not-Unpack)) refl
