use Rattle.std.proofs.Common.{◌≡◌, ◌∙◌, ◌+◌, Some, arith, subst, sym}
use Rattle.t_terms.specs.Tree.{TProg, TSeq}
use Rattle.t_rules.specs.Known.{code_at}
use Rattle.listing.specs.Writing.{program_of, text_of}
use Rattle.listing.proofs.Steps.{steps_last, steps_moved}
use Rattle.listing.proofs.lister.Lister.write_steps.Goals as goal

pub write_set-requires-clause-there : goal.write_set-requires-clause-there
write_set-requires-clause-there c =
    subst (λ (P : TProg). (x : TSeq) × (code_at P c.args.block (c.loop-i.i + 1) ≡ Some x))
    (sym (c.write_text.ensures.same.1 ∙ c.loop-i.invariant.same.1))
    (c.requires.there (c.loop-i.i + 1) (omega (arith, c.loop-i-test.true)))

pub loop-i-preserved : goal.loop-i-preserved
loop-i-preserved c =
    let l = c.loop-i in
    let to_program = c.write_text.ensures.same.1 ∙ l.invariant.same.1 in
    record {
      lister = c.write_set.ensures.lister;
      same = (
        c.write_set.ensures.same.0 ∙ c.write_text.ensures.same.0 ∙ l.invariant.same.0,
        c.write_set.ensures.same.1 ∙ to_program,
      );
      left = steps_moved _ _ _ _ c.args.block c.args.page.now.items l.page.items c.write_text.new.page.items
          c.write_set.new.page.items c.args.steps.now l.i _ c.set_by.result c.index-steps-i.is c.loop-i-test.true
          l.invariant.left l.invariant.same.0 to_program c.set_by.ensures c.in_ok-write_text.ensures.row
          c.in_ok-write_set.ensures.row;
    }

pub returns-clause-rows : goal.returns-clause-rows
returns-clause-rows c =
    steps_last (text_of c.args.self.now) (program_of c.args.self.now) c.args.block c.args.page.now.items
    c.loop-i.page.items c.args.steps.now c.loop-i.i c.loop-i-test.false c.loop-i.invariant.left
