use Rattle.std.proofs.Common.{◌<◌, refl, subst, sym}
use Rattle.std.specs.Prelude.{pos}
use Rattle.t_terms.specs.declared.shown.Shown.TheVariants.{Int}
use Rattle.t_trace.proofs.Rendered.{as_many, word_more, words_none}
use Rattle.t_trace.proofs.lines.write_words.Goals as goal
use Rattle.idx_core.proofs.Lists.{item}

pub loop-i-init : goal.loop-i-init
loop-i-init c = record { many = as_many c.args.regs.now c.args.words.now c.requires; written = refl }

pub bounds-words-i : goal.bounds-words-i
bounds-words-i c = subst (λ n. c.loop-i.i < n) (sym c.loop-i.invariant.many) c.loop-i-test.true

pub loop-i-preserved : goal.loop-i-preserved
loop-i-preserved c =
    let less = subst (λ n. c.loop-i.i < n) (sym c.loop-i.invariant.many) c.loop-i-test.true in
    record {
      many = c.loop-i.invariant.many;
      written = word_more c.args.vars _ _ _ _ _ _ _ _ c.loop-i.i c.args.regs.now c.args.words.now _ _ _
          c.index-regs-i.is c.loop-i-test.true (item c.args.words.now c.loop-i.i (0, Int (pos 0)) less) less
          c.loop-i.invariant.written
          c.in_ok-write_separator.ensures c.in_ok-extend_from_slice.ensures.items c.in_ok-write_natural.ensures.written
          c.in_ok-extend_from_slice-2.ensures.items c.in_ok-write_word.ensures
          c.in_ok-extend_from_slice-3.ensures.items c.in_ok-write_type.ensures;
    }

pub returns : goal.returns
returns c = words_none c.args.vars _ c.loop-i.i c.args.regs.now c.args.words.now _ c.loop-i.invariant.written
    c.loop-i-test.false
