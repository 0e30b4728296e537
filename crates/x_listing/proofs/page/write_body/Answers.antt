use Rattle.std.proofs.Common.{◌≡◌, ◌++◌, ◌∙◌, List, length, [], drop, ap, arith}
use Rattle.std.proofs.lemmas.List.{drop_all}
use Rattle.w_terms.specs.Read.{seq}
use Rattle.w_terms.specs.declared.instr.WInstr.{WInstr}
use Rattle.x_pass.specs.Layout.{place_of}
use Rattle.x_pass.proofs.Measures.{short_next}
use Rattle.x_listing.specs.Lines.{page_text, seq_lines}
use Rattle.x_listing.specs.Remarks.{note_at}
use Rattle.x_listing.specs.Read.{notes_of}
use Rattle.x_listing.proofs.Turns.{more_words, last_words}
use Rattle.x_listing.proofs.page.write_body.Goals as goal

pub loop-k-preserved : goal.loop-k-preserved
loop-k-preserved c =
    let notes = notes_of c.args.notes.now in record {
      lines = more_words (place_of c.args.labels.now) notes (note_at notes c.args.l).before c.loop-k.k
          c.as_slice-body.result.now c.args.block.now.«end» _ c.loop-k-test.true c.loop-k.page.items _ _
          _ c.loop-k.at _ c.in_ok-write_remark.ensures c.in_ok-at.ensures.lines c.in_ok-at.ensures.next
          c.loop-k.invariant.lines;
      short = short_next c.loop-k.k c.as_slice-body.result.now c.loop-k.invariant.short;
      within = omega (arith, c.loop-k-test.true);
    }

pub returns : goal.returns
returns c =
    let notes = notes_of c.args.notes.now in
    let before = (note_at notes c.args.l).before in
    let place = place_of c.args.labels.now in
    let e = c.args.block.now.«end» in
    let xs : List WInstr = c.as_slice-body.result.now in
    let none : drop c.loop-k.k xs ≡ [] = drop_all c.loop-k.k xs c.loop-k-test.false in
    let all : length xs ≡ c.loop-k.k = omega (arith, c.loop-k-test.false, c.loop-k.invariant.within) in
    last_words place notes before c.loop-k.k _ c.loop-k.at (drop c.loop-k.k xs) e c.loop-k.page.items _ _ _ none all
    c.in_ok-write_remark-2.ensures c.in_ok-write_last_lines.ensures c.loop-k.invariant.lines
    ∙ ap (λ (ys : List WInstr). c.args.page.now.items
    ++ page_text (seq_lines place notes before 0 (place c.args.l) (seq ys e))) c.as_slice-body.ensures.value
