use Rattle.std.proofs.Common.{arith, sym, subst}
use Rattle.std.proofs.lemmas.List.{length-map}
use Rattle.std.proofs.lemmas.Result.{err_from_is_err_and}
use Rattle.t_text.specs.declared.kept.Word.{Word}
use Rattle.t_text.specs.Text.{ReadsAs}
use Rattle.t_text.specs.Kept.{token_in, tokens_of}
use Rattle.t_reader.proofs.Answered.{reads}
use Rattle.t_reader.proofs.Shaped.{token_fault, shaped}
use Rattle.t_reader.proofs.Well.{is_whole}
use Rattle.t_reader.proofs.reader.reading.Goals as goal

pub returns-in_err-tokens : goal.returns-in_err-tokens
returns-in_err-tokens c =
    let p = err_from_is_err_and c.from_residual.result c.from_residual.ensures.1 in
    rw (p.1, p.2) (token_fault c.args.text.now _ c.in_err-tokens.ensures.right)

pub parts_of-requires : goal.parts_of-requires
parts_of-requires c =
    c.in_ok-tokens.ensures.right

pub returns-in_err-parts : goal.returns-in_err-parts
returns-in_err-parts c =
    let p = err_from_is_err_and c.from_residual-in_err-parts.result c.from_residual-in_err-parts.ensures.1 in
    rw (p.1, p.2) (c.in_err-parts.ensures)

pub new-requires : goal.new-requires
new-requires c =
    let h = c.in_ok-parts.ensures in
    let t = c.in_ok-tokens.tokens in
    let s = shaped c.args.text.now (tokens_of t) h.raw c.in_ok-tokens.ensures.right h.program
    (omega (
      arith,
      t.words.small,
      t.words.ok.0,
      t.words.ok.1,
      length-map t.words.items
          (λ (w : Word). token_in t.long.items w),
    )) in
    is_whole c.args.text.now h.raw c.in_ok-parts.parts.blocks.items c.in_ok-parts.parts.heap.items s h.named h.is

pub returns : goal.returns
returns c =
    let h = c.in_ok-parts.ensures in
    let t = c.in_ok-tokens.tokens in
    let s = shaped c.args.text.now (tokens_of t) h.raw c.in_ok-tokens.ensures.right h.program
    (omega (
      arith,
      t.words.small,
      t.words.ok.0,
      t.words.ok.1,
      length-map t.words.items
          (λ (w : Word). token_in t.long.items w),
    )) in
    subst (ReadsAs c.args.text.now) (sym c.new.ensures)
    (reads c.args.text.now h.raw c.in_ok-parts.parts.blocks.items c.in_ok-parts.parts.heap.items s h.named h.is)
