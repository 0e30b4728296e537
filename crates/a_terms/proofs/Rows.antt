-- Worked rows of the allocated calculus.
use Rattle.std.proofs.Common.{◌≡◌, ℕ, zero, suc, Bool, Some, pos, [], ◌∷◌, refl, sym, ap, ◌∙◌}
use Rattle.std.specs.Prelude.{true, false}
use Rattle.std.specs.Int.{int_wrap}
use Rattle.idx_core.specs.declared.arith.Op.TheVariants.{Add}
use Rattle.a_terms.specs.Tree.{ATy, AInt, AVar, ATuple, AExists, NoATys, MoreATys, NoAFields, MoreAFields, Var, Num}
use Rattle.a_terms.specs.Tree.{Lab, Data, Pack, Proj, Arith, Unpack, Malloc, Init, ATm, Let, Call, Halt, AProg}
use Rattle.a_terms.specs.Meaning.{Halted, Spent, Wrong, meaning}
use Rattle.a_terms.specs.Typing.{TypedTerm, declared, afield_flag}

-- no blocks and no data
abbrev alone : AProg
alone = record { blocks = []; tuples = [] }

-- p = malloc[int, int]; q = p[1] <- 3; r = q[2] <- 4; x = #2 r; halt x
abbrev pair : ATm
pair = Let (Malloc (MoreATys AInt (MoreATys AInt NoATys)))
    (Let (Init (Var 0) 1 (Num (pos 3))) (Let (Init (Var 0) 2 (Num (pos 4))) (Let (Proj 2 (Var 0)) (Halt (Var 0)))))

pair_halts : meaning alone pair 0 ≡ Halted (pos 4) []
pair_halts = refl

-- a field is read before it is filled
abbrev early : ATm
early = Let (Malloc (MoreATys AInt NoATys)) (Let (Proj 1 (Var 0)) (Halt (Var 0)))

early_is_wrong : meaning alone early 0 ≡ Wrong []
early_is_wrong = refl

-- an initialisation names the same tuple with the flag of its field at 1; the name before keeps its type
flags : declared alone (ATuple (MoreAFields AInt false (MoreAFields AInt false NoAFields)) ∷ [])
    (Init (Var 0) 2 (Num (pos 4))) ≡ ATuple (MoreAFields AInt false (MoreAFields AInt true NoAFields))
    ∷ ATuple (MoreAFields AInt false (MoreAFields AInt false NoAFields)) ∷ []
flags = refl

-- a cell: its one field is initialised twice, and both names see the last value
abbrev cell : ATm
cell = Let (Malloc (MoreATys AInt NoATys))
    (Let (Init (Var 0) 1 (Num (pos 3))) (Let (Init (Var 0) 1 (Num (pos 9))) (Let (Proj 1 (Var 1)) (Halt (Var 0)))))

cell_halts : meaning alone cell 0 ≡ Halted (pos 9) []
cell_halts = refl

-- its typing: an initialisation asks for no flag
cell_is_typed : TypedTerm alone 0 [] cell
cell_is_typed = (
  (tt, tt),
  (
    (
      MoreAFields AInt false NoAFields,
      0,
      AInt,
      record { fine = tt; is = refl },
      record { fine = tt; is = refl },
      refl,
      refl,
    ),
    (
      (
        MoreAFields AInt true NoAFields,
        0,
        AInt,
        record { fine = tt; is = refl },
        record { fine = tt; is = refl },
        refl,
        refl,
      ),
      (
        (MoreAFields AInt true NoAFields, 0, AInt, record { fine = tt; is = refl }, refl, refl, refl),
        record { fine = tt; is = refl },
      ),
    ),
  ),
)

-- a data tuple <7> and a block of one argument that adds it: main calls the block with 5
abbrev sevens : AProg
sevens = record {
  blocks = record {
    owes = 0;
    args = MoreATys AInt NoATys;
    body = Let (Proj 1 (Data 0)) (Let (Arith Add (Var 0) (Var 1)) (Halt (Var 0)));
  } ∷ [];
  tuples = (record { value = Num (pos 7); kind = AInt } ∷ []) ∷ [];
}

abbrev go : ATm
go = Call (Lab 0) NoATys (Num (pos 5) ∷ [])

sevens_spent : meaning sevens go 0 ≡ Spent []
sevens_spent = refl

sevens_halts : meaning sevens go 1 ≡ Halted (pos 12) (0 ∷ [])
unfolding int_wrap
sevens_halts = refl

-- a pack is not seen by the meaning
abbrev opened : ATm
opened = Let (Unpack (Pack AInt (Num (pos 2)) (AExists (AVar 0)))) (Halt (Num (pos 1)))

opened_halts : meaning alone opened 0 ≡ Halted (pos 1) []
opened_halts = refl

-- and its typing refuses it: the field's flag is 0
abbrev flag_in : ATy → ℕ → Bool
flag_in (ATuple fs) i = afield_flag fs i
flag_in t i = false

early_not_typed : TypedTerm alone 0 [] early → ⊥
early_not_typed (below, ((fs, j, t, has, is, type, flag), rest)) =
    clash (sym flag ∙ ap (λ s. flag_in s j) (sym (some_is has.is)) ∙ unset j)
  where
    clash : true ≡ false → ⊥
    clash e = cc

    some_is : {s u : ATy} → Some s ≡ Some u → s ≡ u
    some_is e = cc

    unset : (j : ℕ) → flag_in (ATuple (MoreAFields AInt false NoAFields)) j ≡ false
    unset zero = refl
    unset (suc i) = refl
