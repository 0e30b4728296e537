-- Bounds on a program.
use Rattle.std.specs.Prelude.{ℕ, suc, ◌+◌, ◌≤◌, List, [], ◌∷◌, length}
use Rattle.a_terms.specs.Tree.{ATm, Let, Call, If0, Halt, ABlk, AProg, arity}
use Rattle.a_terms.specs.Typing.{TypedProgram}
use Rattle.a_terms.specs.Each.{ProgramEach, AWithin}
use Rattle.a_terms.specs.Sizes.{Fits-in}

-- how many choices stand in a term: each makes one more block of the assembly program
abbrev pub thirds : ATm → ℕ
thirds (Let x e) = thirds e
thirds (Call v ts vs) = 0
thirds (If0 v a b) = suc (thirds a + thirds b)
thirds (Halt v) = 0

abbrev pub all_thirds : List ABlk → ℕ
all_thirds [] = 0
all_thirds (b ∷ bs) = thirds b.body + all_thirds bs

-- with d variables in scope, the code of the term takes no register above m
abbrev pub ARegs : ℕ → ℕ → ATm → Type 0
ARegs m d (Let x e) = (suc (suc d) ≤ m) × ARegs m (suc d) e
ARegs m d (Call v ts vs) = suc (d + length vs) + length vs ≤ m
ARegs m d (If0 v a b) = (suc d ≤ m) × ARegs m d a × ARegs m d b
ARegs m d (Halt v) = suc d ≤ m

abbrev pub AAllRegs : ℕ → List ABlk → Type 0
AAllRegs m [] = Unit {0}
AAllRegs m (b ∷ bs) = ARegs m (arity b.args) b.body × AAllRegs m bs

abbrev pub ASmall : ℕ → AProg → ATm → Type 0
ASmall m p main = AAllRegs m p.blocks × ARegs m 0 main

-- typed; at most n names of types in scope and around a place of a type, and a reach of at most r; no register
-- above n; and at most n blocks and choices
abbrev pub AFits : (n r : ℕ) → AProg → ATm → Type 0
AFits n r p main =
    TypedProgram p main × ProgramEach (AWithin n r n) p main × ASmall n p main
    × (length p.blocks + (thirds main + all_thirds p.blocks) ≤ n)

-- the bound of programs: what the assembly program is made of is in range by it
abbrev pub ABound : AProg → ATm → Type 0
ABound p main = AFits 70368744177664 1604 p main × Fits-in 4611686018427387904 p main
