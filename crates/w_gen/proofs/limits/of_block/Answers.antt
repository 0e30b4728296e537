use Rattle.std.proofs.Common.{◌≡◌, ◌+◌, max, List, [], ◌∷◌, drop, sym, ap, ◌∙◌, arith}
use Rattle.std.proofs.lemmas.List.{drop_more, drop_all}
use Rattle.idx_core.specs.declared.span.Span.{Span}
use Rattle.t_terms.specs.Read.{end_of}
use Rattle.t_terms.specs.declared.instr.Instr.{Instr}
use Rattle.t_rules.specs.Erase.{erase_end}
use Rattle.w_gen.specs.Limits.{seq_register, seq_field}
use Rattle.w_gen.proofs.Bounds.{left, instr_registers_go, instr_fields_go, end_field}
use Rattle.w_gen.proofs.limits.of_block.Goals as goal

pub loop-step-preserved : goal.loop-step-preserved
loop-step-preserved c =
    let l = c.loop-step in
    let xs = c.deref-step-items.result.now in
    let x = c.step-item.result in
    let i = l.step-index in
    let e = end_of c.args.block.now.«end» in
    let next = drop_more xs i x c.loop-step-test.true
    ∙ ap (λ (y : Instr × Span). y ∷ drop (i + 1) xs) (sym c.step-item.is) in
    record {
      register = instr_registers_go l.register _ _ (drop i xs) (drop (i + 1) xs) x e _ l.invariant.register next
          c.of_instruction.ensures c.max-register.ensures;
      field = instr_fields_go l.field _ _ (drop i xs) (drop (i + 1) xs) x e _ l.invariant.field next
          c.field_of.ensures c.max-field.ensures;
    }

pub returns-clause-register : goal.returns-clause-register
returns-clause-register c =
    let l = c.loop-step in
    let xs = c.deref-step-items.result.now in
    let e = end_of c.args.block.now.«end» in
    let none : drop l.step-index xs ≡ [] = drop_all l.step-index xs c.loop-step-test.false in
    c.max.ensures ∙ ap (max l.register) c.of_end.ensures
    ∙ sym (ap (λ (ys : List (Instr × Span)). max l.register (seq_register (left ys e))) none)
    ∙ l.invariant.register
    ∙ ap (λ (ys : List (Instr × Span)). seq_register (left ys e)) c.deref-step-items.ensures.value

pub returns-clause-field : goal.returns-clause-field
returns-clause-field c =
    let l = c.loop-step in
    let xs = c.deref-step-items.result.now in
    let e = end_of c.args.block.now.«end» in
    let none : drop l.step-index xs ≡ [] = drop_all l.step-index xs c.loop-step-test.false in
    let zero = end_field e in
    let same : l.field ≡ max l.field (seq_field (erase_end e)) = omega (arith, zero) in
    same ∙ sym (ap (λ (ys : List (Instr × Span)). max l.field (seq_field (left ys e))) none) ∙ l.invariant.field
    ∙ ap (λ (ys : List (Instr × Span)). seq_field (left ys e)) c.deref-step-items.ensures.value
