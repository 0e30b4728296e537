use Rattle.std.proofs.Common.{◌≡◌, ℕ, ◌+◌, ◌<◌, ◌-◌, List, ◌∷◌, drop, length, get_or, ap, ap₂, sym, subst, ◌∙◌}
use Rattle.std.proofs.lemmas.List.{drop_more, drop_all}
use Rattle.idx_core.specs.Over.{PutFitsAt, IsWord}
use Rattle.t_types.specs.Tree.{Ty, TFile, shift, put_file, each, each_file}
use Rattle.t_types.specs.Read.{tree, file, types}
use Rattle.t_types.specs.declared.types.TType.{TType}
use Rattle.t_terms.specs.Registers.{inst_file}
use Rattle.t_spill.specs.Applying.{CanApply}
use Rattle.t_spill.proofs.Applies.{Goes, goes}
use Rattle.t_spill.proofs.applied.instantiate.Goals as goal

-- the first type that is left
at_type : (ts : List TType) (i : ℕ) (t : TType) → i < length ts → t ≡ get_or ts i t →
    types (drop i ts) ≡ tree t ∷ types (drop (i + 1) ts)
at_type ts i t lt is = ap types (drop_more ts i t lt) ∙ ap (λ (u : TType). tree u ∷ types (drop (i + 1) ts)) (sym is)

first : (ts : List TType) (i : ℕ) (t : TType) (n : ℕ) (f : TFile) → i < length ts → t ≡ get_or ts i t →
    CanApply n f (types (drop i ts)) → Goes n f (tree t) (types (drop (i + 1) ts))
first ts i t n f lt is h = goes n f (tree t) (types (drop (i + 1) ts)) (subst (CanApply n f) (at_type ts i t lt is) h)

pub overflow_sub-left : goal.overflow_sub-left
overflow_sub-left c =
    (first c.args.types.now c.loop-t.t-index c.t-item.result c.loop-t.left (file c.loop-t.made.items)
    c.loop-t-test.true c.t-item.is c.loop-t.invariant.can).some

pub shift-requires : goal.shift-requires
shift-requires c =
    (first c.args.types.now c.loop-t.t-index c.t-item.result c.loop-t.left (file c.loop-t.made.items)
    c.loop-t-test.true c.t-item.is c.loop-t.invariant.can).shifts

pub put_regs-requires-clause-fits : goal.put_regs-requires-clause-fits
put_regs-requires-clause-fits c =
    let left = c.loop-t.left in
    let a = first c.args.types.now c.loop-t.t-index c.t-item.result left (file c.loop-t.made.items) c.loop-t-test.true
    c.t-item.is c.loop-t.invariant.can in
    subst (λ (xs : List (ℕ × TType)). each_file (PutFitsAt each (left - 1) (tree c.in_ok-what.what)) IsWord (left - 1)
    (file xs)) (sym c.deref.ensures.value)
    (subst (λ (u : Ty). each_file (PutFitsAt each (left - 1) u) IsWord (left - 1) (file c.loop-t.made.items))
    (sym c.in_ok-what.ensures) a.puts)

pub loop-t-preserved : goal.loop-t-preserved
loop-t-preserved c =
    let left = c.loop-t.left in
    let i = c.loop-t.t-index in
    let ts = c.args.types.now in
    let t = c.t-item.result in
    let a = first ts i t left (file c.loop-t.made.items) c.loop-t-test.true c.t-item.is c.loop-t.invariant.can in
    let made = put_file (left - 1) (shift (left - 1) 0 (tree t)) (file c.loop-t.made.items) in
    let done : file c.in_ok-made.made.items ≡ made =
    c.in_ok-made.ensures
    ∙ ap₂ (λ (u : Ty) (xs : List (ℕ × TType)). put_file (left - 1) u (file xs)) c.in_ok-what.ensures
    c.deref.ensures.value in
    record {
      same =
          c.loop-t.invariant.same
          ∙ ap (λ (us : List Ty). inst_file us left (file c.loop-t.made.items))
          (at_type ts i t c.loop-t-test.true c.t-item.is)
          ∙ ap (inst_file (types (drop (i + 1) ts)) (left - 1)) (sym done);
      can = subst (λ f. CanApply (left - 1) f (types (drop (i + 1) ts))) (sym done) a.next;
    }

pub returns : goal.returns
returns c =
    sym (c.loop-t.invariant.same
    ∙ ap (λ (us : List TType). inst_file (types us) c.loop-t.left (file c.loop-t.made.items))
    (drop_all c.loop-t.t-index c.args.types.now c.loop-t-test.false))
