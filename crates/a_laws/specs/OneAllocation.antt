-- What stands for a hoisted program is one program, but for the types of its mallocs, which typing tells, and for which
-- of equal data tuples is named where.
use Rattle.std.specs.Prelude.{◌≡◌, ℕ, zero, suc, List, [], ◌∷◌}
use Rattle.h_terms.specs.H.{HTm, HBlks}
use Rattle.a_terms.specs.Tree.{ATys, NoATys, MoreATys, AInt, AVal, Var, Num, Lab, Data, Apply, Pack, ADecl, Value, Proj}
use Rattle.a_terms.specs.Tree.{Arith, Unpack, Malloc, Init, ATm, Let, Call, If0, Halt, ABlk, AConsts, AProg, arity}
use Rattle.a_laws.specs.Stands.{Stands}

-- a value with the numbers of its data left aside
abbrev pub unnumbered : AVal → AVal
unnumbered (Var i) = Var i
unnumbered (Num n) = Num n
unnumbered (Lab l) = Lab l
unnumbered (Data n) = Data 0
unnumbered (Apply v ts) = Apply (unnumbered v) ts
unnumbered (Pack h v s) = Pack h (unnumbered v) s

abbrev pub all_unnumbered : List AVal → List AVal
all_unnumbered [] = []
all_unnumbered (v ∷ vs) = unnumbered v ∷ all_unnumbered vs

-- so many types
abbrev pub untyped : ℕ → ATys
untyped zero = NoATys
untyped (suc n) = MoreATys AInt (untyped n)

abbrev pub plain_decl : ADecl → ADecl
plain_decl (Value v) = Value (unnumbered v)
plain_decl (Proj i v) = Proj i (unnumbered v)
plain_decl (Arith op v w) = Arith op (unnumbered v) (unnumbered w)
plain_decl (Unpack v) = Unpack (unnumbered v)
plain_decl (Malloc ts) = Malloc (untyped (arity ts))
plain_decl (Init v i w) = Init (unnumbered v) i (unnumbered w)

-- a term with these left aside, and the types of its mallocs
abbrev pub plain_term : ATm → ATm
plain_term (Let x e) = Let (plain_decl x) (plain_term e)
plain_term (Call v ts vs) = Call (unnumbered v) ts (all_unnumbered vs)
plain_term (If0 v a b) = If0 (unnumbered v) (plain_term a) (plain_term b)
plain_term (Halt v) = Halt (unnumbered v)

abbrev pub plain_blocks : List ABlk → List ABlk
plain_blocks [] = []
plain_blocks (b ∷ bs) = record { owes = b.owes; args = b.args; body = plain_term b.body } ∷ plain_blocks bs

-- data with the numbers of those that their fields name left aside: the values, and the types that are written
abbrev pub plain_fields : AConsts → AConsts
plain_fields [] = []
plain_fields (c ∷ cs) = record { value = unnumbered c.value; kind = c.kind } ∷ plain_fields cs

abbrev pub plain_data : List AConsts → List AConsts
plain_data [] = []
plain_data (x ∷ xs) = plain_fields x ∷ plain_data xs

abbrev pub OneAllocation : Type 0
OneAllocation =
    (p q : AProg) (m n : ATm) (ks : HBlks) (t : HTm) → Stands p m ks t → Stands q n ks t →
    (plain_blocks p.blocks ≡ plain_blocks q.blocks) × (plain_term m ≡ plain_term n)
    × (plain_data p.tuples ≡ plain_data q.tuples)
