use Rattle.std.proofs.Common.{◌≡◌, [], ◌∷◌, ◌++◌, ◌+◌, slice_get, Some, refl, sym, ◌∙◌, arith}
use Rattle.std.proofs.lemmas.Option.{slice_get_within}
use Rattle.std.proofs.lemmas.Result.{err_from_is_err_and}
use Rattle.text_core.specs.Table.{Tm, Nt, Do}
use Rattle.text_core.specs.Going.{at_the_end, other}
use Rattle.t_text.specs.declared.wanted.Wanted.TheVariants as want
use Rattle.t_text.specs.GrammarTable.{LItem, LTuple, MakeBlock, MakeBlockItem, MakeDataItem, code_owed, data_owed}
use Rattle.t_text.specs.GrammarTable.{item_after}
use Rattle.t_shapes.proofs.Stepping.{start, by_token, by_row, by_call, by_do, by_same, stop_token, stop_call}
use Rattle.t_shapes.proofs.Stepping.{stop_lacks}
use Rattle.t_shapes.specs.Reads.{item_owed, code_parts}
use Rattle.t_shapes.proofs.Lines.{no_item}
use Rattle.t_shapes.proofs.Itemed.{block_item}
use Rattle.t_text.specs.Kept.{tokens_of}
use Rattle.t_shapes.proofs.items.item.Goals as goal

pub returns-in_err-label : goal.returns-in_err-label
returns-in_err-label c =
    let ts = tokens_of c.args.tokens.now in
    let i = c.args.at in
    let p = err_from_is_err_and c.from_residual.result c.from_residual.ensures.1 in
    rw (p.1, p.2)
    (stop_token _ want.Name (Tm want.Colon ∷ (Nt LItem ∷ [])) [] (start ts 0 i item_owed) c.in_err-label.ensures)

pub returns-in_err-expect : goal.returns-in_err-expect
returns-in_err-expect c =
    let ts = tokens_of c.args.tokens.now in
    let i = c.args.at in
    let m1 = by_token want.Name _ (Tm want.Colon ∷ (Nt LItem ∷ [])) [] (start ts 0 i item_owed) c.in_ok-label.ensures
    (omega arith) in
    let p = err_from_is_err_and c.from_residual-in_err-expect.result c.from_residual-in_err-expect.ensures.1 in
    rw (p.1, p.2) (stop_token _ want.Colon (Nt LItem ∷ []) _ m1 c.in_err-expect.ensures)

pub returns-in-None : goal.returns-in-None
returns-in-None c =
    let ts = tokens_of c.args.tokens.now in
    let i = c.args.at in
    let m1 = by_token want.Name _ (Tm want.Colon ∷ (Nt LItem ∷ [])) [] (start ts 0 i item_owed) c.in_ok-label.ensures
    (omega arith) in
    let m2 = by_same {k = i + 2} (omega arith)
    (by_token want.Colon _ (Nt LItem ∷ []) _ m1 c.in_ok-expect.ensures (omega arith)) in
    stop_lacks _ LItem [] _ m2 refl (at_the_end (sym c.peek.ensures ∙ c.in-None.is)) refl

pub code-requires : goal.code-requires
code-requires c =
    let ts = tokens_of c.args.tokens.now in
    let i = c.args.at in
    let e : slice_get ts (i + 2) ≡ Some c.in-Some.word = sym c.peek.ensures ∙ c.in-Some.is in
    let l = slice_get_within ts (i + 2) c.in-Some.word e in omega (arith, l)

pub returns-in_err-found-in-Code : goal.returns-in_err-found-in-Code
returns-in_err-found-in-Code c =
    let ts = tokens_of c.args.tokens.now in
    let i = c.args.at in
    let e : slice_get ts (i + 2) ≡ Some c.in-Some.word = sym c.peek.ensures ∙ c.in-Some.is in
    let m1 = by_token want.Name _ (Tm want.Colon ∷ (Nt LItem ∷ [])) [] (start ts 0 i item_owed) c.in_ok-label.ensures
    (omega arith) in
    let m2 = by_same {k = i + 2} (omega arith)
    (by_token want.Colon _ (Nt LItem ∷ []) _ m1 c.in_ok-expect.ensures (omega arith)) in
    let a : item_after c.in-Some.word.kind ≡ Some (code_owed ++ Do MakeBlockItem ∷ []) = rw c.in-Code.is refl in
    let m3 = by_same {k = i + 3} (omega arith)
    (by_row c.in-Some.word LItem (code_owed ++ Do MakeBlockItem ∷ []) [] _ m2 e a (omega arith)) in
    let p = err_from_is_err_and c.from_residual-in_err-found-in-Code.result
    c.from_residual-in_err-found-in-Code.ensures.1 in
    rw (p.1, p.2)
    (stop_call _ code_parts 0 (Do MakeBlock ∷ (Do MakeBlockItem ∷ [])) _ m3
    (omega arith) c.in_err-found-in-Code.ensures)

pub returns-in_ok-found-in-Code : goal.returns-in_ok-found-in-Code
returns-in_ok-found-in-Code c =
    let ts = tokens_of c.args.tokens.now in
    let i = c.args.at in
    let e : slice_get ts (i + 2) ≡ Some c.in-Some.word = sym c.peek.ensures ∙ c.in-Some.is in
    let m1 = by_token want.Name _ (Tm want.Colon ∷ (Nt LItem ∷ [])) [] (start ts 0 i item_owed) c.in_ok-label.ensures
    (omega arith) in
    let m2 = by_same {k = i + 2} (omega arith)
    (by_token want.Colon _ (Nt LItem ∷ []) _ m1 c.in_ok-expect.ensures (omega arith)) in
    let a : item_after c.in-Some.word.kind ≡ Some (code_owed ++ Do MakeBlockItem ∷ []) = rw c.in-Code.is refl in
    let m3 = by_same {k = i + 3} (omega arith)
    (by_row c.in-Some.word LItem (code_owed ++ Do MakeBlockItem ∷ []) [] _ m2 e a (omega arith)) in
    let f = c.in_ok-found-in-Code.ensures in
    record {
      kind = rw (e, c.in-Code.is) refl;
      reads = rw f.is (record {
        forward = omega (arith, f.reads.forward);
        in_range = f.reads.in_range;
        same = block_item _ _ _ _ _ _ _ _
            (by_call 0 (Do MakeBlock ∷ (Do MakeBlockItem ∷ [])) _ m3 (omega arith) f.reads.same);
      });
    }

pub tuple-requires : goal.tuple-requires
tuple-requires c =
    let ts = tokens_of c.args.tokens.now in
    let i = c.args.at in
    let e : slice_get ts (i + 2) ≡ Some c.in-Some.word = sym c.peek.ensures ∙ c.in-Some.is in
    let l = slice_get_within ts (i + 2) c.in-Some.word e in omega (arith, l)

pub returns-in_err-found-in-Data : goal.returns-in_err-found-in-Data
returns-in_err-found-in-Data c =
    let ts = tokens_of c.args.tokens.now in
    let i = c.args.at in
    let e : slice_get ts (i + 2) ≡ Some c.in-Some.word = sym c.peek.ensures ∙ c.in-Some.is in
    let m1 = by_token want.Name _ (Tm want.Colon ∷ (Nt LItem ∷ [])) [] (start ts 0 i item_owed) c.in_ok-label.ensures
    (omega arith) in
    let m2 = by_same {k = i + 2} (omega arith)
    (by_token want.Colon _ (Nt LItem ∷ []) _ m1 c.in_ok-expect.ensures (omega arith)) in
    let a : item_after c.in-Some.word.kind ≡ Some data_owed = rw c.in-Data.is refl in
    let m3 = by_same {k = i + 3} (omega arith) (by_row c.in-Some.word LItem data_owed [] _ m2 e a (omega arith)) in
    let p = err_from_is_err_and c.from_residual-in_err-found-in-Data.result
    c.from_residual-in_err-found-in-Data.ensures.1 in
    rw (p.1, p.2)
    (stop_call _ (Nt LTuple ∷ []) 0 (Do MakeDataItem ∷ []) _ m3 (omega arith) c.in_err-found-in-Data.ensures)

pub returns-in_ok-found-in-Data : goal.returns-in_ok-found-in-Data
returns-in_ok-found-in-Data c =
    let ts = tokens_of c.args.tokens.now in
    let i = c.args.at in
    let e : slice_get ts (i + 2) ≡ Some c.in-Some.word = sym c.peek.ensures ∙ c.in-Some.is in
    let m1 = by_token want.Name _ (Tm want.Colon ∷ (Nt LItem ∷ [])) [] (start ts 0 i item_owed) c.in_ok-label.ensures
    (omega arith) in
    let m2 = by_same {k = i + 2} (omega arith)
    (by_token want.Colon _ (Nt LItem ∷ []) _ m1 c.in_ok-expect.ensures (omega arith)) in
    let a : item_after c.in-Some.word.kind ≡ Some data_owed = rw c.in-Data.is refl in
    let m3 = by_same {k = i + 3} (omega arith) (by_row c.in-Some.word LItem data_owed [] _ m2 e a (omega arith)) in
    let r = c.in_ok-found-in-Data.ensures in
    record {
      kind = rw (e, c.in-Data.is) refl;
      reads = record {
        forward = omega (arith, r.forward);
        in_range = r.in_range;
        same = by_do MakeDataItem [] _ _ (by_call 0 (Do MakeDataItem ∷ []) _ m3 (omega arith) r.same) (λ below. refl);
      };
    }

pub returns-in_default : goal.returns-in_default
returns-in_default c =
    let ts = tokens_of c.args.tokens.now in
    let i = c.args.at in
    let e : slice_get ts (i + 2) ≡ Some c.in-Some.word = sym c.peek.ensures ∙ c.in-Some.is in
    let m1 = by_token want.Name _ (Tm want.Colon ∷ (Nt LItem ∷ [])) [] (start ts 0 i item_owed) c.in_ok-label.ensures
    (omega arith) in
    let m2 = by_same {k = i + 2} (omega arith)
    (by_token want.Colon _ (Nt LItem ∷ []) _ m1 c.in_ok-expect.ensures (omega arith)) in
    stop_lacks _ LItem [] _ m2 refl
    (other c.in-Some.word e (no_item c.in-Some.word.kind c.in_default.not-Code c.in_default.not-Data)) refl
