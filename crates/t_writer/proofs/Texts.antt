-- What a written text stands for, and that it reads as that.
use Rattle.std.proofs.Common.{◌≡◌, ◌∙◌, ◌≤◌, ◌<◌, ◌^◌, ℕ, List, [], ◌++◌, codes, length, subst, sym, ap, arith}
use Rattle.t_terms.specs.declared.block.Block.{Block}
use Rattle.t_terms.specs.declared.data.Data.{Data}
use Rattle.t_terms.specs.Tree.{TProg}
use Rattle.t_terms.specs.Read.{blocks_of, data_of, parts}
use Rattle.t_terms.specs.Whole.{WellFormedProgram}
use Rattle.t_text.specs.Text.{most_open, StandsFor, ReadsBack}
use Rattle.t_terms.specs.Nesting.{nesting}
use Rattle.t_text.specs.NestingLaws.{KeepsByNesting}
use Rattle.t_terms.proofs.Blocks.{blocks_count, data_count}
use Rattle.t_terms.specs.Values.{BlocksValues, HeapValues}
use Rattle.t_terms.specs.Whole.{ValueFits}
use Rattle.t_writer.specs.Lexeme.{render}
use Rattle.t_writer.specs.Written.{blocks_written, heap_written, program_written, second_written}
use Rattle.t_writer.proofs.Rendered.{render_append}
use Rattle.t_writer.proofs.WroteProgram.{first_stands, second_stands}

pub first_is : (text start : List ℕ) (bs : List Block) (xs : List Data) → start ≡ codes "tal 1\n" →
    text ≡ start ++ render (blocks_written 0 (blocks_of bs)) → text ≡ render (program_written (parts bs xs).blocks)
first_is text start bs xs e g = rw e at g

pub first_text : (text start : List ℕ) (bs : List Block) (xs : List Data) → length bs < 2 ^ 63 → xs ≡ [] →
    WellFormedProgram (parts bs xs) → BlocksValues ValueFits (blocks_of bs) → start ≡ codes "tal 1\n" →
    text ≡ start ++ render (blocks_written 0 (blocks_of bs)) →
    StandsFor text (parts bs xs)
first_text text start bs xs few n h f e g =
    subst (λ (ys : List Data). StandsFor text (parts bs ys)) (sym n)
    (first_stands text (blocks_of bs) (omega (arith, few, blocks_count bs))
    (subst (λ (ys : List Data). WellFormedProgram (parts bs ys)) n h) f (first_is text start bs xs e g))

pub second_is : (text start middle : List ℕ) (bs : List Block) (xs : List Data) → start ≡ codes "tal 2\n" →
    middle ≡ start ++ render (heap_written 0 (data_of xs)) →
    text ≡ middle ++ render (blocks_written 0 (blocks_of bs)) → text ≡ render (second_written (parts bs xs))
second_is text start middle bs xs e m t =
    let both : text ≡ (codes "tal 2\n" ++ render (heap_written 0 (data_of xs)))
    ++ render (blocks_written 0 (blocks_of bs)) = rw (m, e) at t in
    both ∙ ap (λ (s : List ℕ). codes "tal 2\n" ++ s)
    (sym (render_append (heap_written 0 (data_of xs)) (blocks_written 0 (blocks_of bs))))

pub second_text : (text start middle : List ℕ) (bs : List Block) (xs : List Data) → length bs < 2 ^ 63 →
    length xs < 2 ^ 63 → WellFormedProgram (parts bs xs) → BlocksValues ValueFits (blocks_of bs) →
    HeapValues ValueFits (data_of xs) →
    start ≡ codes "tal 2\n" →
    middle ≡ start ++ render (heap_written 0 (data_of xs)) →
    text ≡ middle ++ render (blocks_written 0 (blocks_of bs)) → StandsFor text (parts bs xs)
second_text text start middle bs xs few small h f g e m t =
    second_stands text (parts bs xs) (omega (arith, few, blocks_count bs)) (omega (arith, small, data_count xs)) h f g
    (second_is text start middle bs xs e m t)

pub reads_back : KeepsByNesting → (text : List ℕ) (P : TProg) → StandsFor text P → nesting P ≤ most_open →
    ReadsBack text P
reads_back keeps text P (Q, s, is) h = (Q, record { stands = s; within = (keeps text P (Q, s, is)).1 h }, is)
