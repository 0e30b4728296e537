-- Worked rows.
use Rattle.std.proofs.Common.{◌≡◌, refl, pos, [], ◌∷◌}
use Rattle.std.specs.Int.{int_wrap}
use Rattle.calc_core.specs.Ends.{Halted, Spent}
use Rattle.h_terms.specs.H.{HLabel, HVar}
use Rattle.h_terms.specs.Meaning.{hrun}
use Rattle.h_pass.specs.Back.{IsHoisted, codes, put_back}
use Rattle.h_pass.specs.Example.{both_done, both_labels, count_down, done, example, example_blocks, example_main}
use Rattle.h_pass.specs.Example.{two_blocks}
use Rattle.h_pass.specs.Hoist.{Code, blocks_of, main_of}
use Rattle.h_pass.specs.Stream.{name_at}

-- two blocks: the code inside comes after the code around it, whose own name is its label
the_blocks : blocks_of example ≡ example_blocks
the_blocks = refl

the_main : main_of example ≡ example_main
the_main = refl

-- each code put back for its label
puts_back : put_back example_blocks example_main ≡ example
puts_back = refl

the_codes : codes 0 example_blocks ≡ count_down ∷ done ∷ []
the_codes = refl

-- the label of the code around stands anywhere; that of the code inside is the next one
in_order : IsHoisted example_blocks example_main example
in_order = record {
  codes = refl;
  back = refl;
  order = (
    (tt, (tt, ((refl, (tt, tt)), (tt, (tt, (tt, (tt, (tt, tt)))))))),
    (
      (tt, (λ other. refl, (tt, tt)), ((tt, tt), (λ other. absurd (other refl), (tt, tt)))),
      (tt, tt),
    ),
  );
}

-- <L0, L1>, where the two blocks have one code
each_in_turn : IsHoisted two_blocks (both_labels 0 1) both_done
each_in_turn = record { codes = refl; back = refl; order = (((refl, (refl, tt)), tt), (tt, (tt, tt))) }

-- five calls: four of the code that counts down from 3, and one of the code inside
it_halts : hrun 5 example_blocks example_main ≡ record { end = Halted (pos 42); entered = 0 ∷ 0 ∷ 0 ∷ 0 ∷ 1 ∷ [] }
unfolding int_wrap
it_halts = refl

four_are_too_few : (hrun 4 example_blocks example_main).end ≡ Spent
unfolding int_wrap
four_are_too_few = refl

-- in a code level 0 is the code itself, and the first argument is level 1
own_name : name_at (Code 7) 2 0 ≡ HLabel 7
own_name = refl

first_argument : name_at (Code 7) 2 1 ≡ HVar 0
first_argument = refl
