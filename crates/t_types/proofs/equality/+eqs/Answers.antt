use Rattle.std.proofs.Common.{◌≡◌, true, refl, sym, ap, ◌∙◌, ap₂}
use Rattle.t_types.specs.Tree.{TupleTy, CodeTy}
use Rattle.t_types.specs.Read.{fields, file}
use Rattle.t_types.proofs.Trees.{tree_is_tuple, tree_is_code}
use Rattle.std.proofs.lemmas.Iterator.{empty_from_Zip}
use Rattle.t_types.proofs.Equal.{SameFields, SameRegs, fields_len, fields_more, fields_parts, regs_len}
use Rattle.t_types.proofs.Equal.{regs_more, regs_parts, not_same, same}
use Rattle.t_types.proofs.Pairs.{starts, ends, firsts, goes_on}
use Rattle.t_types.proofs.equality.+eqs.Goals as goal

pub eq-returns-then-m-n : goal.eq-returns-then-m-n
eq-returns-then-m-n t c =
    let a = tree_is_code _ _ _ _ c.in-Code-Code.is-0 c.deref.ensures.value in
    let b = tree_is_code _ _ _ _ c.in-Code-Code.is-1 c.deref-then-m-n.ensures.value in (
      (λ h. a ∙ ap₂ CodeTy c.if-m-n.true (c.eq_regs.ensures.0 h) ∙ sym b),
      (λ h. let z : CodeTy c.in-Code-Code.m (file c.deref.result.now)
          ≡ CodeTy c.in-Code-Code.n (file c.deref-then-m-n.result.now) = sym a ∙ h ∙ b in
          let y : file c.deref.result.now ≡ file c.deref-then-m-n.result.now = cc in c.eq_regs.ensures.1 y),
    )

pub eq-returns-in-Tuple-Tuple : goal.eq-returns-in-Tuple-Tuple
eq-returns-in-Tuple-Tuple t c =
    let a = tree_is_tuple _ _ _ c.in-Tuple-Tuple.is-0 c.deref-in-Tuple-Tuple.ensures.value in
    let b = tree_is_tuple _ _ _ c.in-Tuple-Tuple.is-1 c.deref-in-Tuple-Tuple-2.ensures.value in (
      (λ h. a ∙ ap TupleTy (c.eq_fields.ensures.0 h) ∙ sym b),
      (λ h. let z : TupleTy (fields c.deref-in-Tuple-Tuple.result.now)
          ≡ TupleTy (fields c.deref-in-Tuple-Tuple-2.result.now) = sym a ∙ h ∙ b in
          let y : fields c.deref-in-Tuple-Tuple.result.now ≡ fields c.deref-in-Tuple-Tuple-2.result.now = cc in
          c.eq_fields.ensures.1 y),
    )

pub eq_fields-returns-then-a-b : goal.eq_fields-returns-then-a-b
eq_fields-returns-then-a-b t c = ((λ h. cc), (λ h. absurd (c.if-a-b.true (fields_len c.args.a.now c.args.b.now h))))

pub eq_fields-loop-x-init : goal.eq_fields-loop-x-init
eq_fields-loop-x-init t c =
    let z = c.zip-x-items.ensures in
    let e = c.into_iter-x-iterator.ensures.into_iter_gives in
    starts SameFields _ _ _ _ (rw (e, z.first) c.iter.ensures.rest) (rw e z.second.0) c.if-a-b.false

pub eq_fields-returns-then-x-y : goal.eq_fields-returns-then-x-y
eq_fields-returns-then-x-y t c =
    let s = c.in-Some.ensures.steps in
    let first = firsts SameFields _ _ _ _ _ _ _ _ c.loop-x.invariant s.0 s.1 in
    ((λ h. cc), (λ h. absurd (not_same _ _ c.if-x-y.true (fields_parts _ _ _ _ (first h)).0.1)))

pub eq_fields-returns-then-not-eq : goal.eq_fields-returns-then-not-eq
eq_fields-returns-then-not-eq t c = (
  (λ h. cc),
  (λ h.
      let s = c.in-Some.ensures.steps in
      let p = fields_parts _ _ _ _ (firsts SameFields _ _ _ _ _ _ _ _ c.loop-x.invariant s.0 s.1 h) in
      let z : c.eq.result ≡ true = c.eq.ensures.1 p.0.0 in let z2 = c.if-not-eq.true in cc),
)

pub eq_fields-loop-x-preserved : goal.eq_fields-loop-x-preserved
eq_fields-loop-x-preserved t c =
    let s = c.in-Some.ensures.steps in
    let z = c.eq.ensures.0 c.if-not-eq.false in
    goes_on SameFields _ _ _ _ _ _ _ _ c.loop-x.invariant s.0 s.1
    (fields_more _ _ _ _ (z, same _ _ c.if-x-y.false)) (λ h. (fields_parts _ _ _ _ h).1)

pub eq_fields-returns : goal.eq_fields-returns
eq_fields-returns t c =
    let l = c.loop-x in
    let e = empty_from_Zip l.x-iterator c.next.new.self _ c.in-None.is c.next.ensures.steps l.invariant.long in
    ((λ h. ends SameFields _ _ _ _ l.invariant e.0 e.1 refl), (λ h. refl))

pub eq_regs-returns-then-a-b : goal.eq_regs-returns-then-a-b
eq_regs-returns-then-a-b t c = ((λ h. cc), (λ h. absurd (c.if-a-b.true (regs_len c.args.a.now c.args.b.now h))))

pub eq_regs-loop-x-init : goal.eq_regs-loop-x-init
eq_regs-loop-x-init t c =
    let z = c.zip-x-items.ensures in
    let e = c.into_iter-x-iterator.ensures.into_iter_gives in
    starts SameRegs _ _ _ _ (rw (e, z.first) c.iter.ensures.rest) (rw e z.second.0) c.if-a-b.false

pub eq_regs-returns-then-x-y : goal.eq_regs-returns-then-x-y
eq_regs-returns-then-x-y t c =
    let s = c.in-Some.ensures.steps in
    let first = firsts SameRegs _ _ _ _ _ _ _ _ c.loop-x.invariant s.0 s.1 in
    ((λ h. cc), (λ h. absurd (c.if-x-y.true (regs_parts _ _ _ _ (first h)).0.0)))

pub eq_regs-returns-then-not-eq : goal.eq_regs-returns-then-not-eq
eq_regs-returns-then-not-eq t c = (
  (λ h. cc),
  (λ h.
      let s = c.in-Some.ensures.steps in
      let p = regs_parts _ _ _ _ (firsts SameRegs _ _ _ _ _ _ _ _ c.loop-x.invariant s.0 s.1 h) in
      let z : c.eq.result ≡ true = c.eq.ensures.1 p.0.1 in let z2 = c.if-not-eq.true in cc),
)

pub eq_regs-loop-x-preserved : goal.eq_regs-loop-x-preserved
eq_regs-loop-x-preserved t c =
    let s = c.in-Some.ensures.steps in
    let z = c.eq.ensures.0 c.if-not-eq.false in
    goes_on SameRegs _ _ _ _ _ _ _ _ c.loop-x.invariant s.0 s.1
    (regs_more _ _ _ _ (c.if-x-y.false, z)) (λ h. (regs_parts _ _ _ _ h).1)

pub eq_regs-returns : goal.eq_regs-returns
eq_regs-returns t c =
    let l = c.loop-x in
    let e = empty_from_Zip l.x-iterator c.next.new.self _ c.in-None.is c.next.ensures.steps l.invariant.long in
    ((λ h. ends SameRegs _ _ _ _ l.invariant e.0 e.1 refl), (λ h. refl))
