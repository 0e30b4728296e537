use Rattle.std.proofs.Common.{ℕ, ◌-◌, [], ap, subst, refl, arith}
use Rattle.std.proofs.lemmas.List.Elements.{All-nil}
use Rattle.f_terms.specs.NotedTerm.{noted_at}
use Rattle.f_terms.specs.ReadTerm.{count}
use Rattle.k_pass.specs.Machine.{FrameIn, PendingIn, ControlIn, NextIn}
use Rattle.k_pass.proofs.Inside.{all_same}
use Rattle.k_pass.proofs.Ends.{starts, kept, fewer, resumed_is, ended}
use Rattle.k_pass.proofs.convert.emit.Goals as goal

pub loop-control-init : goal.loop-control-init
loop-control-init c =
    let m = count c.args.term.now in
    record {
      all = starts c.args.term.now c.args.types.now
          (record {
            out = c.new.result;
            frames = c.new-2.result;
            pending = c.new-3.result;
            names = c.new-4.result;
            levels = c.new-5.result;
            types = 0;
          }) _
          c.new.ensures.items c.new-2.ensures.items c.new-3.ensures.items c.new-4.ensures.items c.new-5.ensures.items
          refl (ap (λ (k : ℕ). k - 1) c.count.ensures.number);
      inside = (
        omega (arith, c.count.ensures.number, c.count.ensures.some),
        all_same (FrameIn m) [] _ c.new-2.ensures.items (All-nil (FrameIn m)),
        all_same (PendingIn m) [] _ c.new-3.ensures.items (All-nil (PendingIn m)),
      );
    }

pub walk-requires : goal.walk-requires
walk-requires c = record {
  here = subst (ControlIn (count c.args.term.now)) c.in-Walk.is c.loop-control.invariant.inside.0;
  table = c.requires.table;
}

pub loop-control-preserved-in-Walk : goal.loop-control-preserved-in-Walk
loop-control-preserved-in-Walk c =
    let t = noted_at c.args.term.now c.args.types.now in
    let i = c.loop-control.invariant.inside in
    record {
      all = kept t c.loop-control.work c.walk.new.work c.loop-control.control _ c.in_ok-control-in-Walk.control _
          c.in-Walk.is c.in_ok-control-in-Walk.ensures.steps c.loop-control.invariant.all;
      inside = c.in_ok-control-in-Walk.ensures.inside (i.1, i.2);
    }

pub loop-control-preserved-in-Give : goal.loop-control-preserved-in-Give
loop-control-preserved-in-Give c =
    let t = noted_at c.args.term.now c.args.types.now in
    let i = c.loop-control.invariant.inside in
    record {
      all = kept t c.loop-control.work c.give.new.work c.loop-control.control _ c.in_ok-control-in-Give.control _
          c.in-Give.is (c.in_ok-control-in-Give.ensures.steps t) c.loop-control.invariant.all;
      inside = c.in_ok-control-in-Give.ensures.inside (count c.args.term.now) (i.1, i.2);
    }

pub loop-control-smaller : goal.loop-control-smaller
loop-control-smaller c =
    let t = noted_at c.args.term.now c.args.types.now in
    fewer t c.loop-control.work c.resume.new.work c.loop-control.control _ c.in-Some.next c.in-Ended.is
    (resumed_is t c.loop-control.work c.resume.new.work c.in_ok-next-in-Ended.field-0 c.in-Some.next c.in-Some.is
    (c.in_ok-next-in-Ended.ensures.steps t))

pub loop-control-preserved : goal.loop-control-preserved
loop-control-preserved c =
    let t = noted_at c.args.term.now c.args.types.now in
    let m = count c.args.term.now in
    let i = c.loop-control.invariant.inside in
    record {
      all = kept t c.loop-control.work c.resume.new.work c.loop-control.control _ c.in-Some.next _ c.in-Ended.is
          (resumed_is t c.loop-control.work c.resume.new.work c.in_ok-next-in-Ended.field-0 c.in-Some.next c.in-Some.is
          (c.in_ok-next-in-Ended.ensures.steps t)) c.loop-control.invariant.all;
      inside = subst (NextIn m c.resume.new.work) c.in-Some.is (c.in_ok-next-in-Ended.ensures.inside m (i.1, i.2));
    }

pub returns-in-None : goal.returns-in-None
returns-in-None c =
    let t = noted_at c.args.term.now c.args.types.now in
    ended t c.loop-control.work c.resume.new.work c.in_ok-next-in-Ended.field-0 c.loop-control.control _ c.in-Ended.is
    c.in-None.is (c.in_ok-next-in-Ended.ensures.steps t) c.loop-control.invariant.all
