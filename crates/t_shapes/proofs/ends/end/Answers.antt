use Rattle.std.proofs.Common.{◌≡◌, [], ◌∷◌, slice_get, Some, refl, sym, ◌∙◌, arith}
use Rattle.std.proofs.lemmas.Option.{slice_get_within}
use Rattle.std.proofs.lemmas.Result.{err_from_is_err_and}
use Rattle.text_core.specs.Table.{Nt, Do}
use Rattle.text_core.specs.Going.{at_the_end, other}
use Rattle.t_text.specs.GrammarTable.{LV, LInt, LEnd, MakeJmp, MakeHalt, end_after}
use Rattle.t_shapes.proofs.Stepping.{start, begins, by_call, by_do, by_same, stop_call, stop_lacks}
use Rattle.t_shapes.proofs.Lines.{no_end}
use Rattle.t_text.specs.Kept.{tokens_of}
use Rattle.t_shapes.proofs.ends.end.Goals as goal

pub returns-in-None : goal.returns-in-None
returns-in-None c =
    let ts = tokens_of c.args.tokens.now in
    let i = c.args.at in
    stop_lacks _ LEnd [] [] (start ts 0 i (Nt LEnd ∷ [])) refl (at_the_end (sym c.peek.ensures ∙ c.in-None.is)) refl

pub value-requires-clause-at : goal.value-requires-clause-at
value-requires-clause-at c =
    let ts = tokens_of c.args.tokens.now in
    let i = c.args.at in
    let e : slice_get ts i ≡ Some c.in-Some.word = sym c.peek.ensures ∙ c.in-Some.is in
    let l = slice_get_within ts i c.in-Some.word e in omega (arith, l)

pub returns-in_err-target-in-Jmp : goal.returns-in_err-target-in-Jmp
returns-in_err-target-in-Jmp c =
    let ts = tokens_of c.args.tokens.now in
    let i = c.args.at in
    let e : slice_get ts i ≡ Some c.in-Some.word = sym c.peek.ensures ∙ c.in-Some.is in
    let a : end_after c.in-Some.word.kind ≡ Some (Nt LV ∷ (Do MakeJmp ∷ [])) = rw c.in-Jmp.is refl in
    let m = begins ts 0 i c.in-Some.word LEnd (Nt LV ∷ (Do MakeJmp ∷ [])) e a (omega arith) in
    let p = err_from_is_err_and c.from_residual.result c.from_residual.ensures.1 in
    rw (p.1, p.2) (stop_call _ (Nt LV ∷ []) 0 (Do MakeJmp ∷ []) _ m (omega arith) c.in_err-target-in-Jmp.ensures)

pub returns-in_ok-target-in-Jmp : goal.returns-in_ok-target-in-Jmp
returns-in_ok-target-in-Jmp c =
    let ts = tokens_of c.args.tokens.now in
    let i = c.args.at in
    let e : slice_get ts i ≡ Some c.in-Some.word = sym c.peek.ensures ∙ c.in-Some.is in
    let a : end_after c.in-Some.word.kind ≡ Some (Nt LV ∷ (Do MakeJmp ∷ [])) = rw c.in-Jmp.is refl in
    let m = begins ts 0 i c.in-Some.word LEnd (Nt LV ∷ (Do MakeJmp ∷ [])) e a (omega arith) in
    let r = c.in_ok-target-in-Jmp.ensures in
    rw c.up_to.ensures (record {
      forward = omega (arith, r.forward);
      in_range = r.in_range;
      same = by_do MakeJmp [] _ _ (by_call 0 (Do MakeJmp ∷ []) _ m (omega arith) r.same) (λ below. refl);
    })

pub int-requires : goal.int-requires
int-requires c =
    let ts = tokens_of c.args.tokens.now in
    let i = c.args.at in
    let e : slice_get ts i ≡ Some c.in-Some.word = sym c.peek.ensures ∙ c.in-Some.is in
    let l = slice_get_within ts i c.in-Some.word e in omega (arith, l)

pub returns-in_err-close-in-Halt : goal.returns-in_err-close-in-Halt
returns-in_err-close-in-Halt c =
    let ts = tokens_of c.args.tokens.now in
    let i = c.args.at in
    let e : slice_get ts i ≡ Some c.in-Some.word = sym c.peek.ensures ∙ c.in-Some.is in
    let a : end_after c.in-Some.word.kind ≡ Some (Nt LInt ∷ (Do MakeHalt ∷ [])) = rw c.in-Halt.is refl in
    let m = begins ts 0 i c.in-Some.word LEnd (Nt LInt ∷ (Do MakeHalt ∷ [])) e a (omega arith) in
    let p = err_from_is_err_and c.from_residual-in_err-close-in-Halt.result
    c.from_residual-in_err-close-in-Halt.ensures.1 in
    rw (p.1, p.2) (stop_call _ (Nt LInt ∷ []) 0 (Do MakeHalt ∷ []) _ m (omega arith) c.in_err-close-in-Halt.ensures)

pub returns-in_ok-close-in-Halt : goal.returns-in_ok-close-in-Halt
returns-in_ok-close-in-Halt c =
    let ts = tokens_of c.args.tokens.now in
    let i = c.args.at in
    let e : slice_get ts i ≡ Some c.in-Some.word = sym c.peek.ensures ∙ c.in-Some.is in
    let a : end_after c.in-Some.word.kind ≡ Some (Nt LInt ∷ (Do MakeHalt ∷ [])) = rw c.in-Halt.is refl in
    let m = begins ts 0 i c.in-Some.word LEnd (Nt LInt ∷ (Do MakeHalt ∷ [])) e a (omega arith) in
    let r = c.in_ok-close-in-Halt.ensures in
    rw c.up_to-in-Halt.ensures (record {
      forward = omega arith;
      in_range = omega (arith, r.in_range);
      same = by_same (omega arith)
          (by_do MakeHalt [] _ _ (by_call 0 (Do MakeHalt ∷ []) _ m (omega arith) r.same) (λ below. refl));
    })

pub returns-in_default : goal.returns-in_default
returns-in_default c =
    let ts = tokens_of c.args.tokens.now in
    let i = c.args.at in
    let e : slice_get ts i ≡ Some c.in-Some.word = sym c.peek.ensures ∙ c.in-Some.is in
    stop_lacks _ LEnd [] [] (start ts 0 i (Nt LEnd ∷ [])) refl
    (other c.in-Some.word e (no_end c.in-Some.word.kind c.in_default.not-Jmp c.in_default.not-Halt)) refl
