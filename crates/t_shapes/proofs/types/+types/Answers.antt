use Rattle.std.proofs.Common.{◌≡◌, ℕ, List, [], ◌∷◌, ◌++◌, ◌+◌, Bool, slice_get, Some, refl, sym, ◌∙◌, ap, arith}
use Rattle.std.proofs.lemmas.Option.{slice_get_within}
use Rattle.std.proofs.lemmas.Result.{err_from_is_err_and}
use Rattle.idx_core.specs.declared.span.Span.{Span}
use Rattle.text_core.specs.Table.{Tm, Nt, Do, Mark}
use Rattle.text_core.specs.Going.{at_the_end, other}
use Rattle.t_text.specs.declared.wanted.Wanted.TheVariants as want
use Rattle.t_text.specs.GrammarTable.{LBinds, LFile, LRegs, LMoreRegs, MakeFile, MakeFirstReg, MakeNextReg}
use Rattle.t_text.specs.GrammarTable.{MakeClosedRegs, LT, LFields, LMoreFields, MakeFirstField, MakeNextField}
use Rattle.t_text.specs.GrammarTable.{MakeClosedFields, MakeTypeInt, MakeTypeName, MakeTypeCode, MakeTypeSome}
use Rattle.t_text.specs.GrammarTable.{MakeTypeTuple, type_after}
use Rattle.t_shapes.specs.declared.raw_types.RawType.{RawType}
use Rattle.t_shapes.specs.ReadsTypes.{entry_owed, field_owed}
use Rattle.t_shapes.proofs.Stepping.{within, start, begins, by_token, by_two, by_call, by_do, by_mark, by_same}
use Rattle.t_shapes.proofs.Stepping.{stop_token, stop_two, stop_call, stop_deep, stop_lacks, not_opening, too_deep}
use Rattle.t_shapes.proofs.Stepping.{bracketed, bracketed_stops, list_first, list_first_stops, list_next}
use Rattle.t_shapes.proofs.Stepping.{list_next_stops, list_whole, list_close_stops}
use Rattle.t_shapes.proofs.TypeLines.{opens_file, list_regs, list_fields, no_type}
use Rattle.t_shapes.proofs.Empty.{regs_empty, fields_empty}
use Rattle.t_shapes.proofs.Raws.{raw_Tuple, raw_Code, regs_more, fields_more, reg_is, field_is}
use Rattle.t_text.specs.Kept.{tokens_of}
use Rattle.t_shapes.proofs.types.+types.Goals as goal

pub entry-returns-in_err-reg : goal.entry-returns-in_err-reg
entry-returns-in_err-reg t c =
    let ts = tokens_of c.args.tokens.now in
    let d = c.args.depth in
    let i = c.args.at in
    let p = err_from_is_err_and c.from_residual.result c.from_residual.ensures.1 in
    rw (p.1, p.2)
    (stop_token _ want.Register (Tm want.Colon ∷ (Nt LT ∷ [])) [] (start ts d i entry_owed) c.in_err-reg.ensures)

pub entry-returns-in_err-expect : goal.entry-returns-in_err-expect
entry-returns-in_err-expect t c =
    let ts = tokens_of c.args.tokens.now in
    let d = c.args.depth in
    let i = c.args.at in
    let g = c.in_ok-reg.ensures in
    let m = by_token want.Register g.0 (Tm want.Colon ∷ (Nt LT ∷ [])) [] (start ts d i entry_owed) g.1 (omega arith) in
    let p = err_from_is_err_and c.from_residual-in_err-expect.result c.from_residual-in_err-expect.ensures.1 in
    rw (p.1, p.2) (stop_token _ want.Colon (Nt LT ∷ []) _ m c.in_err-expect.ensures)

pub entry-whole_type-requires : goal.entry-whole_type-requires
entry-whole_type-requires t c =
    let ts = tokens_of c.args.tokens.now in
    let i = c.args.at in
    let l = within ts (i + 1) want.Colon _ c.in_ok-expect.ensures in
    (omega (arith, l), (c.requires.depth, omega (arith, l)))

pub entry-returns-in_err-found : goal.entry-returns-in_err-found
entry-returns-in_err-found t c =
    let ts = tokens_of c.args.tokens.now in
    let d = c.args.depth in
    let i = c.args.at in
    let g = c.in_ok-reg.ensures in
    let m = by_two want.Register want.Colon g.0 _ (Nt LT ∷ []) [] (start ts d i entry_owed)
    (g.1, c.in_ok-expect.ensures) (omega arith) in
    let p = err_from_is_err_and c.from_residual-in_err-found.result c.from_residual-in_err-found.ensures.1 in
    rw (p.1, p.2) (stop_call _ (Nt LT ∷ []) d [] _ m (omega arith) c.in_err-found.ensures)

pub entry-returns : goal.entry-returns
entry-returns t c =
    let ts = tokens_of c.args.tokens.now in
    let d = c.args.depth in
    let i = c.args.at in
    let g = c.in_ok-reg.ensures in
    let m = by_two want.Register want.Colon g.0 _ (Nt LT ∷ []) [] (start ts d i entry_owed)
    (g.1, c.in_ok-expect.ensures) (omega arith) in
    let f = c.in_ok-found.found in
    let r = c.in_ok-found.ensures in
    record {
      reg = g.0;
      colon = _;
      ty = _;
      is = reg_is _ g.0 f.ty g.2;
      reads = record {
        forward = omega (arith, r.forward);
        in_range = r.in_range;
        same = by_call d [] _ m (omega arith) r.same;
      };
    }

pub field-returns-in_err-expect : goal.field-returns-in_err-expect
field-returns-in_err-expect t c =
    let ts = tokens_of c.args.tokens.now in
    let d = c.args.depth in
    let i = c.args.at in
    let m = by_call d (Tm want.Caret ∷ (Tm want.Flag ∷ [])) [] (start ts d i field_owed)
    (omega arith) c.in_ok-found.ensures.same in
    let p = err_from_is_err_and c.from_residual-in_err-expect.result c.from_residual-in_err-expect.ensures.1 in
    rw (p.1, p.2) (stop_token _ want.Caret (Tm want.Flag ∷ []) _ m c.in_err-expect.ensures)

pub field-returns-in_err-flag : goal.field-returns-in_err-flag
field-returns-in_err-flag t c =
    let ts = tokens_of c.args.tokens.now in
    let d = c.args.depth in
    let i = c.args.at in
    let m = by_call d (Tm want.Caret ∷ (Tm want.Flag ∷ [])) [] (start ts d i field_owed)
    (omega arith) c.in_ok-found.ensures.same in
    let n = by_token want.Caret _ (Tm want.Flag ∷ []) _ m c.in_ok-expect.ensures (omega arith) in
    let p = err_from_is_err_and c.from_residual-in_err-flag.result c.from_residual-in_err-flag.ensures.1 in
    rw (p.1, p.2) (stop_token _ want.Flag [] _ n c.in_err-flag.ensures)

pub field-returns : goal.field-returns
field-returns t c =
    let ts = tokens_of c.args.tokens.now in
    let d = c.args.depth in
    let i = c.args.at in
    let m = by_call d (Tm want.Caret ∷ (Tm want.Flag ∷ [])) [] (start ts d i field_owed)
    (omega arith) c.in_ok-found.ensures.same in
    let f = c.in_ok-found.found in
    let r = c.in_ok-found.ensures in
    let g = c.in_ok-flag.ensures in
    let l = within ts (f.next + 1) want.Flag _ g.1 in
    record {
      ty = _;
      caret = _;
      flag = g.0;
      is = field_is _ g.0 f.ty g.2;
      reads = record {
        forward = omega (arith, r.forward);
        in_range = omega (arith, l);
        same = by_two want.Caret want.Flag _ g.0 [] _ m (c.in_ok-expect.ensures, g.1) (omega arith);
      };
    }

pub regs-returns-in-Some : goal.regs-returns-in-Some
regs-returns-in-Some t c =
    let ts = tokens_of c.args.tokens.now in
    let d = c.args.depth in
    let i = c.args.at in
    rw c.new-regs.ensures.items (regs_empty ts d i _ c.requires.depth (sym c.take.ensures ∙ c.in-Some.is))

pub regs-returns-in_err-first : goal.regs-returns-in_err-first
regs-returns-in_err-first t c =
    let ts = tokens_of c.args.tokens.now in
    let d = c.args.depth in
    let i = c.args.at in
    let p = err_from_is_err_and c.from_residual.result c.from_residual.ensures.1 in
    rw (p.1, p.2)
    (list_first_stops LRegs LMoreRegs want.RightBrace entry_owed MakeFirstReg MakeNextReg MakeClosedRegs list_regs
    ts d i _ (sym c.take.ensures ∙ c.in_default.is) c.in_err-first.ensures)

pub regs-loop-regs-init : goal.regs-loop-regs-init
regs-loop-regs-init t c =
    let ts = tokens_of c.args.tokens.now in
    let d = c.args.depth in
    let i = c.args.at in
    let f = c.in_ok-first.first in
    let r = c.in_ok-first.ensures in
    let e : c.push.new.self.items ≡ f.entry ∷ [] = c.in_ok-push.ensures.items
    ∙ ap (λ (xs : List (ℕ × Span × RawType)). xs ++ f.entry ∷ []) c.new-regs.ensures.items in
    rw (e, r.is)
    (list_first LRegs LMoreRegs want.RightBrace entry_owed MakeFirstReg MakeNextReg MakeClosedRegs list_regs ts d i
    f.next _ _ (sym c.take.ensures ∙ c.in_default.is) r.reads (λ below. refl))

pub regs-entry-requires-in-Some-take : goal.regs-entry-requires-in-Some-take
regs-entry-requires-in-Some-take t c =
    let ts = tokens_of c.args.tokens.now in
    let d = c.args.depth in
    let i = c.args.at in
    let j = c.loop-regs.next in
    let r = c.loop-regs.invariant in
    let l = within ts j want.Comma _ (sym c.take-in-loop-regs.ensures ∙ c.in-Some-take.is) in
    (omega (arith, l, r.forward), (c.requires.depth, omega (arith, l)))

pub regs-returns-in_err-found : goal.regs-returns-in_err-found
regs-returns-in_err-found t c =
    let ts = tokens_of c.args.tokens.now in
    let d = c.args.depth in
    let i = c.args.at in
    let p = err_from_is_err_and c.from_residual-in_err-found.result c.from_residual-in_err-found.ensures.1 in
    rw (p.1, p.2)
    (list_next_stops LRegs LMoreRegs want.RightBrace entry_owed MakeFirstReg MakeNextReg MakeClosedRegs list_regs
    ts d i c.loop-regs.next _ _ _ c.requires.depth c.loop-regs.invariant
    (sym c.take-in-loop-regs.ensures ∙ c.in-Some-take.is) c.in_err-found.ensures)

pub regs-loop-regs-preserved : goal.regs-loop-regs-preserved
regs-loop-regs-preserved t c =
    let ts = tokens_of c.args.tokens.now in
    let d = c.args.depth in
    let i = c.args.at in
    let f = c.in_ok-found.found in
    let r = c.in_ok-found.ensures in
    rw (regs_more c.loop-regs.regs.items _ f.entry c.in_ok-push-2.ensures.items, r.is)
    (list_next LRegs LMoreRegs want.RightBrace entry_owed MakeFirstReg MakeNextReg MakeClosedRegs list_regs ts d i
    c.loop-regs.next f.next _ _ _ _ c.requires.depth c.loop-regs.invariant
    (sym c.take-in-loop-regs.ensures ∙ c.in-Some-take.is) r.reads (λ below. refl))

pub regs-returns-in_err-close : goal.regs-returns-in_err-close
regs-returns-in_err-close t c =
    let ts = tokens_of c.args.tokens.now in
    let d = c.args.depth in
    let i = c.args.at in
    let p = err_from_is_err_and c.from_residual-in_err-close.result c.from_residual-in_err-close.ensures.1 in
    rw (p.1, p.2)
    (list_close_stops LRegs LMoreRegs want.RightBrace entry_owed MakeFirstReg MakeNextReg MakeClosedRegs list_regs
    ts d i c.loop-regs.next _ _ c.loop-regs.invariant (sym c.take-in-loop-regs.ensures ∙ c.in_default-take.is)
    c.in_err-close.ensures)

pub regs-returns : goal.regs-returns
regs-returns t c =
    let ts = tokens_of c.args.tokens.now in
    let d = c.args.depth in
    let i = c.args.at in
    (list_whole LRegs LMoreRegs want.RightBrace entry_owed MakeFirstReg MakeNextReg MakeClosedRegs list_regs ts d i
    c.loop-regs.next _ _ _ c.requires.depth c.loop-regs.invariant
    (sym c.take-in-loop-regs.ensures ∙ c.in_default-take.is) c.in_ok-close.ensures (λ below. refl))

pub fields-returns-in-Some : goal.fields-returns-in-Some
fields-returns-in-Some t c =
    let ts = tokens_of c.args.tokens.now in
    let d = c.args.depth in
    let i = c.args.at in
    rw (raw_Tuple c.new-fields.result, c.new-fields.ensures.items)
    (fields_empty ts d i _ c.requires.depth (sym c.take.ensures ∙ c.in-Some.is))

pub fields-returns-in_err-first : goal.fields-returns-in_err-first
fields-returns-in_err-first t c =
    let ts = tokens_of c.args.tokens.now in
    let d = c.args.depth in
    let i = c.args.at in
    let p = err_from_is_err_and c.from_residual.result c.from_residual.ensures.1 in
    rw (p.1, p.2)
    (list_first_stops LFields LMoreFields want.RightAngle field_owed MakeFirstField MakeNextField MakeClosedFields
    list_fields ts d i _ (sym c.take.ensures ∙ c.in_default.is) c.in_err-first.ensures)

pub fields-loop-fields-init : goal.fields-loop-fields-init
fields-loop-fields-init t c =
    let ts = tokens_of c.args.tokens.now in
    let d = c.args.depth in
    let i = c.args.at in
    let f = c.in_ok-first.first in
    let r = c.in_ok-first.ensures in
    let e : c.push.new.self.items ≡ f.field ∷ [] = c.in_ok-push.ensures.items
    ∙ ap (λ (xs : List (RawType × Bool)). xs ++ f.field ∷ []) c.new-fields.ensures.items in
    rw (e, r.is)
    (list_first LFields LMoreFields want.RightAngle field_owed MakeFirstField MakeNextField MakeClosedFields
    list_fields ts d i f.next _ _ (sym c.take.ensures ∙ c.in_default.is) r.reads (λ below. refl))

pub fields-field-requires-in-Some-take : goal.fields-field-requires-in-Some-take
fields-field-requires-in-Some-take t c =
    let ts = tokens_of c.args.tokens.now in
    let d = c.args.depth in
    let i = c.args.at in
    let j = c.loop-fields.next in
    let r = c.loop-fields.invariant in
    let l = within ts j want.Comma _ (sym c.take-in-loop-fields.ensures ∙ c.in-Some-take.is) in
    (omega (arith, l, r.forward), (c.requires.depth, omega (arith, l)))

pub fields-returns-in_err-found : goal.fields-returns-in_err-found
fields-returns-in_err-found t c =
    let ts = tokens_of c.args.tokens.now in
    let d = c.args.depth in
    let i = c.args.at in
    let p = err_from_is_err_and c.from_residual-in_err-found.result c.from_residual-in_err-found.ensures.1 in
    rw (p.1, p.2)
    (list_next_stops LFields LMoreFields want.RightAngle field_owed MakeFirstField MakeNextField MakeClosedFields
    list_fields ts d i c.loop-fields.next _ _ _ c.requires.depth c.loop-fields.invariant
    (sym c.take-in-loop-fields.ensures ∙ c.in-Some-take.is) c.in_err-found.ensures)

pub fields-loop-fields-preserved : goal.fields-loop-fields-preserved
fields-loop-fields-preserved t c =
    let ts = tokens_of c.args.tokens.now in
    let d = c.args.depth in
    let i = c.args.at in
    let f = c.in_ok-found.found in
    let r = c.in_ok-found.ensures in
    rw (fields_more c.loop-fields.fields.items _ f.field c.in_ok-push-2.ensures.items, r.is)
    (list_next LFields LMoreFields want.RightAngle field_owed MakeFirstField MakeNextField MakeClosedFields list_fields
    ts d i c.loop-fields.next f.next _ _ _ _ c.requires.depth c.loop-fields.invariant
    (sym c.take-in-loop-fields.ensures ∙ c.in-Some-take.is) r.reads (λ below. refl))

pub fields-returns-in_err-close : goal.fields-returns-in_err-close
fields-returns-in_err-close t c =
    let ts = tokens_of c.args.tokens.now in
    let d = c.args.depth in
    let i = c.args.at in
    let p = err_from_is_err_and c.from_residual-in_err-close.result c.from_residual-in_err-close.ensures.1 in
    rw (p.1, p.2)
    (list_close_stops LFields LMoreFields want.RightAngle field_owed MakeFirstField MakeNextField MakeClosedFields
    list_fields ts d i c.loop-fields.next _ _ c.loop-fields.invariant
    (sym c.take-in-loop-fields.ensures ∙ c.in_default-take.is) c.in_err-close.ensures)

pub fields-returns : goal.fields-returns
fields-returns t c =
    let ts = tokens_of c.args.tokens.now in
    let d = c.args.depth in
    let i = c.args.at in
    rw (raw_Tuple c.loop-fields.fields)
    (list_whole LFields LMoreFields want.RightAngle field_owed MakeFirstField MakeNextField MakeClosedFields
    list_fields ts d i c.loop-fields.next _ _ _ c.requires.depth c.loop-fields.invariant
    (sym c.take-in-loop-fields.ensures ∙ c.in_default-take.is) c.in_ok-close.ensures (λ below. refl))

pub file-returns-in_err-expect : goal.file-returns-in_err-expect
file-returns-in_err-expect t c =
    let ts = tokens_of c.args.tokens.now in
    let d = c.args.depth in
    let i = c.args.at in
    let p = err_from_is_err_and c.from_residual.result c.from_residual.ensures.1 in
    rw (p.1, p.2) (not_opening ts d i _ LFile want.LeftBrace _ opens_file refl c.in_err-expect.ensures)

pub file-returns-in_err-inner : goal.file-returns-in_err-inner
file-returns-in_err-inner t c =
    let ts = tokens_of c.args.tokens.now in
    let d = c.args.depth in
    let i = c.args.at in
    let p = err_from_is_err_and c.from_residual-in_err-inner.result c.from_residual-in_err-inner.ensures.1 in
    rw (p.1, p.2)
    (too_deep ts d i _ _ LFile want.LeftBrace _ opens_file c.in_ok-expect.ensures refl c.in_err-inner.ensures)

pub file-regs-requires : goal.file-regs-requires
file-regs-requires t c =
    let ts = tokens_of c.args.tokens.now in
    let d = c.args.depth in
    let i = c.args.at in
    let q = c.in_ok-inner.ensures in
    let l = within ts i want.LeftBrace _ c.in_ok-expect.ensures in
    (omega (arith, l), (omega (arith, q.0, q.1), omega (arith, l)))

pub file-returns-in_err-found : goal.file-returns-in_err-found
file-returns-in_err-found t c =
    let ts = tokens_of c.args.tokens.now in
    let d = c.args.depth in
    let i = c.args.at in
    let p = err_from_is_err_and c.from_residual-in_err-found.result c.from_residual-in_err-found.ensures.1 in
    rw (p.1, p.2)
    (bracketed_stops ts d i _ LFile LRegs want.LeftBrace MakeFile opens_file c.in_ok-expect.ensures _
    c.in_ok-inner.ensures.1 c.in_ok-inner.ensures.0 _ c.in_err-found.ensures)

pub file-returns : goal.file-returns
file-returns t c =
    let ts = tokens_of c.args.tokens.now in
    let d = c.args.depth in
    let i = c.args.at in
    bracketed ts d i _ LFile LRegs want.LeftBrace MakeFile opens_file c.in_ok-expect.ensures _ c.in_ok-inner.ensures.1
    c.in_ok-inner.ensures.0 c.in_ok-found.found.next _ _ c.in_ok-found.ensures (λ below. refl)

pub whole_type-returns-in-None : goal.whole_type-returns-in-None
whole_type-returns-in-None t c =
    let ts = tokens_of c.args.tokens.now in
    let d = c.args.depth in
    let i = c.args.at in
    stop_lacks _ LT [] [] (start ts d i (Nt LT ∷ [])) refl (at_the_end (sym c.peek.ensures ∙ c.in-None.is)) refl

pub whole_type-code_type-requires : goal.whole_type-code_type-requires
whole_type-code_type-requires t c =
    let ts = tokens_of c.args.tokens.now in
    let i = c.args.at in
    let e : slice_get ts i ≡ Some c.in-Some.token = sym c.peek.ensures ∙ c.in-Some.is in
    let l = slice_get_within ts i c.in-Some.token e in
    (omega (arith, l), (c.requires.depth, l))

pub whole_type-returns-in-All : goal.whole_type-returns-in-All
whole_type-returns-in-All t c =
    c.code_type.ensures c.in-Some.token (sym c.peek.ensures ∙ c.in-Some.is) c.in-All.is

pub whole_type-some_type-requires : goal.whole_type-some_type-requires
whole_type-some_type-requires t c =
    let ts = tokens_of c.args.tokens.now in
    let i = c.args.at in
    let e : slice_get ts i ≡ Some c.in-Some.token = sym c.peek.ensures ∙ c.in-Some.is in
    let l = slice_get_within ts i c.in-Some.token e in
    (omega (arith, l), (c.requires.depth, l))

pub whole_type-returns-in-Some-kind : goal.whole_type-returns-in-Some-kind
whole_type-returns-in-Some-kind t c =
    c.some_type.ensures c.in-Some.token (sym c.peek.ensures ∙ c.in-Some.is) c.in-Some-kind.is

pub code_type-returns-in_err-names : goal.code_type-returns-in_err-names
code_type-returns-in_err-names t c = λ w e k.
    let ts = tokens_of c.args.tokens.now in
    let d = c.args.depth in
    let i = c.args.at in
    let a : type_after w.kind ≡ Some (Nt LBinds ∷ (Nt LFile ∷ (Do MakeTypeCode ∷ []))) = rw k refl in
    let m = begins ts d i w LT (Nt LBinds ∷ (Nt LFile ∷ (Do MakeTypeCode ∷ []))) e a (omega arith) in
    let p = err_from_is_err_and c.from_residual.result c.from_residual.ensures.1 in
    rw (p.1, p.2)
    (stop_call _ (Nt LBinds ∷ []) d (Nt LFile ∷ (Do MakeTypeCode ∷ [])) _ m (omega arith) c.in_err-names.ensures)

pub code_type-file-requires : goal.code_type-file-requires
code_type-file-requires t c =
    let r = c.in_ok-names.ensures in
    (omega (arith, r.forward, r.in_range), (c.requires.depth, r.in_range))

pub code_type-returns-in_err-found : goal.code_type-returns-in_err-found
code_type-returns-in_err-found t c = λ w e k.
    let ts = tokens_of c.args.tokens.now in
    let d = c.args.depth in
    let i = c.args.at in
    let a : type_after w.kind ≡ Some (Nt LBinds ∷ (Nt LFile ∷ (Do MakeTypeCode ∷ []))) = rw k refl in
    let m = begins ts d i w LT (Nt LBinds ∷ (Nt LFile ∷ (Do MakeTypeCode ∷ []))) e a (omega arith) in
    let n = by_call d (Nt LFile ∷ (Do MakeTypeCode ∷ [])) _ m (omega arith) c.in_ok-names.ensures.same in
    let p = err_from_is_err_and c.from_residual-in_err-found.result c.from_residual-in_err-found.ensures.1 in
    rw (p.1, p.2) (stop_call _ (Nt LFile ∷ []) d (Do MakeTypeCode ∷ []) _ n (omega arith) c.in_err-found.ensures)

pub code_type-returns : goal.code_type-returns
code_type-returns t c = λ w e k.
    let ts = tokens_of c.args.tokens.now in
    let d = c.args.depth in
    let i = c.args.at in
    let a : type_after w.kind ≡ Some (Nt LBinds ∷ (Nt LFile ∷ (Do MakeTypeCode ∷ []))) = rw k refl in
    let m = begins ts d i w LT (Nt LBinds ∷ (Nt LFile ∷ (Do MakeTypeCode ∷ []))) e a (omega arith) in
    let n = by_call d (Nt LFile ∷ (Do MakeTypeCode ∷ [])) _ m (omega arith) c.in_ok-names.ensures.same in
    let f = c.in_ok-found.found in
    let r = c.in_ok-found.ensures in
    rw (raw_Code c.in_ok-names.names.names f.file) (record {
      forward = omega (arith, c.in_ok-names.ensures.forward, r.forward);
      in_range = r.in_range;
      same = by_do MakeTypeCode [] _ _ (by_call d (Do MakeTypeCode ∷ []) _ n (omega arith) r.same) (λ below. refl);
    })

pub some_type-returns-in_err-inner : goal.some_type-returns-in_err-inner
some_type-returns-in_err-inner t c = λ w e k.
    let ts = tokens_of c.args.tokens.now in
    let d = c.args.depth in
    let i = c.args.at in
    let a : type_after w.kind ≡ Some (Tm want.Name ∷ (Tm want.Dot ∷ (Nt LT ∷ (Mark ∷ (Do MakeTypeSome ∷ []))))) =
    rw k refl in
    let p = err_from_is_err_and c.from_residual.result c.from_residual.ensures.1 in
    rw (p.1, p.2)
    (stop_deep _ w LT (Tm want.Name ∷ (Tm want.Dot ∷ (Nt LT ∷ (Mark ∷ (Do MakeTypeSome ∷ []))))) [] []
    (start ts d i (Nt LT ∷ [])) e a refl c.in_err-inner.ensures)

pub some_type-returns-in_err-name : goal.some_type-returns-in_err-name
some_type-returns-in_err-name t c = λ w e k.
    let ts = tokens_of c.args.tokens.now in
    let d = c.args.depth in
    let i = c.args.at in
    let a : type_after w.kind ≡ Some (Tm want.Name ∷ (Tm want.Dot ∷ (Nt LT ∷ (Mark ∷ (Do MakeTypeSome ∷ []))))) =
    rw k refl in
    let q = c.in_ok-inner.ensures in
    let m = begins ts d i w LT (Tm want.Name ∷ (Tm want.Dot ∷ (Nt LT ∷ (Mark ∷ (Do MakeTypeSome ∷ []))))) e a
    (omega (arith, q.1)) in
    let p = err_from_is_err_and c.from_residual-in_err-name.result c.from_residual-in_err-name.ensures.1 in
    rw (p.1, p.2)
    (stop_two _ want.Name want.Dot (Nt LT ∷ (Mark ∷ (Do MakeTypeSome ∷ []))) _ m
    (omega (arith, q.1)) c.in_err-name.ensures)

pub some_type-whole_type-requires : goal.some_type-whole_type-requires
some_type-whole_type-requires t c =
    let ts = tokens_of c.args.tokens.now in
    let i = c.args.at in
    let q = c.in_ok-inner.ensures in
    let l = within ts (i + 1 + 1) want.Dot _ c.in_ok-name.ensures.1 in
    (omega (arith, l), (omega (arith, q.0, q.1), omega (arith, l)))

pub some_type-returns-in_err-body : goal.some_type-returns-in_err-body
some_type-returns-in_err-body t c = λ w e k.
    let ts = tokens_of c.args.tokens.now in
    let d = c.args.depth in
    let i = c.args.at in
    let a : type_after w.kind ≡ Some (Tm want.Name ∷ (Tm want.Dot ∷ (Nt LT ∷ (Mark ∷ (Do MakeTypeSome ∷ []))))) =
    rw k refl in
    let q = c.in_ok-inner.ensures in
    let m = begins ts d i w LT (Tm want.Name ∷ (Tm want.Dot ∷ (Nt LT ∷ (Mark ∷ (Do MakeTypeSome ∷ []))))) e a
    (omega (arith, q.1)) in
    let n = by_two want.Name want.Dot _ _ (Nt LT ∷ (Mark ∷ (Do MakeTypeSome ∷ []))) _ m c.in_ok-name.ensures
    (omega (arith, q.1)) in
    let n3 = by_same {k = i + 3} (omega arith) n in
    let p = err_from_is_err_and c.from_residual-in_err-body.result c.from_residual-in_err-body.ensures.1 in
    rw (p.1, p.2)
    (stop_call _ (Nt LT ∷ []) _ (Mark ∷ (Do MakeTypeSome ∷ [])) _ n3 (omega (arith, q.0)) c.in_err-body.ensures)

pub some_type-returns : goal.some_type-returns
some_type-returns t c = λ w e k.
    let ts = tokens_of c.args.tokens.now in
    let d = c.args.depth in
    let i = c.args.at in
    let a : type_after w.kind ≡ Some (Tm want.Name ∷ (Tm want.Dot ∷ (Nt LT ∷ (Mark ∷ (Do MakeTypeSome ∷ []))))) =
    rw k refl in
    let q = c.in_ok-inner.ensures in
    let m = begins ts d i w LT (Tm want.Name ∷ (Tm want.Dot ∷ (Nt LT ∷ (Mark ∷ (Do MakeTypeSome ∷ []))))) e a
    (omega (arith, q.1)) in
    let n = by_two want.Name want.Dot _ _ (Nt LT ∷ (Mark ∷ (Do MakeTypeSome ∷ []))) _ m c.in_ok-name.ensures
    (omega (arith, q.1)) in
    let n3 = by_same {k = i + 3} (omega arith) n in
    let r = c.in_ok-body.ensures in
    rw c.in_ok-ty.ensures (record {
      forward = omega (arith, r.forward);
      in_range = r.in_range;
      same = by_do MakeTypeSome [] _ _
          (by_mark (Do MakeTypeSome ∷ []) _
          (by_call _ (Mark ∷ (Do MakeTypeSome ∷ [])) _ n3 (omega (arith, q.0)) r.same)) (λ below. refl);
    })

pub whole_type-returns-in_err-inner-in-LeftAngle : goal.whole_type-returns-in_err-inner-in-LeftAngle
whole_type-returns-in_err-inner-in-LeftAngle t c =
    let ts = tokens_of c.args.tokens.now in
    let d = c.args.depth in
    let i = c.args.at in
    let e : slice_get ts i ≡ Some c.in-Some.token = sym c.peek.ensures ∙ c.in-Some.is in
    let a : type_after c.in-Some.token.kind ≡ Some (Nt LFields ∷ (Mark ∷ (Do MakeTypeTuple ∷ []))) =
    rw c.in-LeftAngle.is refl in
    let p = err_from_is_err_and c.from_residual.result c.from_residual.ensures.1 in
    rw (p.1, p.2)
    (stop_deep _ c.in-Some.token LT (Nt LFields ∷ (Mark ∷ (Do MakeTypeTuple ∷ []))) [] []
    (start ts d i (Nt LT ∷ [])) e a refl c.in_err-inner-in-LeftAngle.ensures)

pub whole_type-fields-requires : goal.whole_type-fields-requires
whole_type-fields-requires t c =
    let ts = tokens_of c.args.tokens.now in
    let d = c.args.depth in
    let i = c.args.at in
    let e : slice_get ts i ≡ Some c.in-Some.token = sym c.peek.ensures ∙ c.in-Some.is in
    let q = c.in_ok-inner-in-LeftAngle.ensures in
    let l = slice_get_within ts i c.in-Some.token e in
    (omega (arith, l), (omega (arith, q.0, q.1), omega (arith, l)))

pub whole_type-returns-in_err-found-in-LeftAngle : goal.whole_type-returns-in_err-found-in-LeftAngle
whole_type-returns-in_err-found-in-LeftAngle t c =
    let ts = tokens_of c.args.tokens.now in
    let d = c.args.depth in
    let i = c.args.at in
    let e : slice_get ts i ≡ Some c.in-Some.token = sym c.peek.ensures ∙ c.in-Some.is in
    let a : type_after c.in-Some.token.kind ≡ Some (Nt LFields ∷ (Mark ∷ (Do MakeTypeTuple ∷ []))) =
    rw c.in-LeftAngle.is refl in
    let q = c.in_ok-inner-in-LeftAngle.ensures in
    let m = begins ts d i c.in-Some.token LT (Nt LFields ∷ (Mark ∷ (Do MakeTypeTuple ∷ []))) e a (omega (arith, q.1)) in
    let p = err_from_is_err_and c.from_residual-in_err-found-in-LeftAngle.result
    c.from_residual-in_err-found-in-LeftAngle.ensures.1 in
    rw (p.1, p.2)
    (stop_call _ (Nt LFields ∷ []) _ (Mark ∷ (Do MakeTypeTuple ∷ [])) _ m
    (omega (arith, q.0)) c.in_err-found-in-LeftAngle.ensures)

pub whole_type-returns-in_ok-found-in-LeftAngle : goal.whole_type-returns-in_ok-found-in-LeftAngle
whole_type-returns-in_ok-found-in-LeftAngle t c =
    let ts = tokens_of c.args.tokens.now in
    let d = c.args.depth in
    let i = c.args.at in
    let e : slice_get ts i ≡ Some c.in-Some.token = sym c.peek.ensures ∙ c.in-Some.is in
    let a : type_after c.in-Some.token.kind ≡ Some (Nt LFields ∷ (Mark ∷ (Do MakeTypeTuple ∷ []))) =
    rw c.in-LeftAngle.is refl in
    let q = c.in_ok-inner-in-LeftAngle.ensures in
    let m = begins ts d i c.in-Some.token LT (Nt LFields ∷ (Mark ∷ (Do MakeTypeTuple ∷ []))) e a (omega (arith, q.1)) in
    let r = c.in_ok-found-in-LeftAngle.ensures in
    record {
      forward = omega (arith, r.forward);
      in_range = r.in_range;
      same = by_do MakeTypeTuple [] _ _
          (by_mark (Do MakeTypeTuple ∷ []) _
          (by_call _ (Mark ∷ (Do MakeTypeTuple ∷ [])) _ m (omega (arith, q.0)) r.same)) (λ below. refl);
    }

pub whole_type-returns-in-Int : goal.whole_type-returns-in-Int
whole_type-returns-in-Int t c =
    let ts = tokens_of c.args.tokens.now in
    let d = c.args.depth in
    let i = c.args.at in
    let e : slice_get ts i ≡ Some c.in-Some.token = sym c.peek.ensures ∙ c.in-Some.is in
    let a : type_after c.in-Some.token.kind ≡ Some (Do MakeTypeInt ∷ []) = rw c.in-Int.is refl in
    let l = slice_get_within ts i c.in-Some.token e in
    record {
      forward = omega arith;
      in_range = omega (arith, l);
      same = by_do MakeTypeInt [] _ _ (begins ts d i c.in-Some.token LT (Do MakeTypeInt ∷ []) e a (omega arith))
          (λ below. refl);
    }

pub whole_type-returns-in-Name : goal.whole_type-returns-in-Name
whole_type-returns-in-Name t c =
    let ts = tokens_of c.args.tokens.now in
    let d = c.args.depth in
    let i = c.args.at in
    let e : slice_get ts i ≡ Some c.in-Some.token = sym c.peek.ensures ∙ c.in-Some.is in
    let a : type_after c.in-Some.token.kind ≡ Some (Do MakeTypeName ∷ []) = rw c.in-Name.is refl in
    let l = slice_get_within ts i c.in-Some.token e in
    record {
      forward = omega arith;
      in_range = omega (arith, l);
      same = by_do MakeTypeName [] _ _ (begins ts d i c.in-Some.token LT (Do MakeTypeName ∷ []) e a (omega arith))
          (λ below. refl);
    }

pub whole_type-returns-in_default : goal.whole_type-returns-in_default
whole_type-returns-in_default t c =
    let ts = tokens_of c.args.tokens.now in
    let d = c.args.depth in
    let i = c.args.at in
    let e : slice_get ts i ≡ Some c.in-Some.token = sym c.peek.ensures ∙ c.in-Some.is in
    let n = c.in_default in
    stop_lacks _ LT [] [] (start ts d i (Nt LT ∷ [])) refl
    (other c.in-Some.token e
    (no_type c.in-Some.token.kind n.not-Int n.not-Name n.not-All n.not-Some n.not-LeftAngle)) refl
