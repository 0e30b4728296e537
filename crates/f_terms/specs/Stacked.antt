-- Terms on a stack.
use Rattle.std.specs.Prelude.{ℕ, ◌-◌, List, [], ◌∷◌, ◌++◌, length, map, take, drop}
use Rattle.f_terms.specs.Tm.{Tm, Spn, SVar, SNum, SFix, SApp, SGen, SInst, STuple, SProj, SArith, SIf0, SLet, SPack}
use Rattle.f_terms.specs.Tm.{SOpen, SRef, SDeref, SAssign, tms}
use Rattle.f_terms.specs.Read.{tree}
use Rattle.f_terms.specs.ReadTerm.{part}
use Rattle.f_terms.specs.declared.stack.FStack.{FStack}
use Rattle.f_terms.specs.declared.stack.FStep.{FStep}
use Rattle.f_terms.specs.declared.stack.FStep.TheVariants.{Var, Int, Fix, App, Gen, Inst, Tuple, Proj, Arith, If0, Let}
use Rattle.f_terms.specs.declared.stack.FStep.TheVariants.{Pack, Open, Ref, Deref, Assign}

-- how many parts a form has
abbrev pub arity : FStep → ℕ
arity (Var i) = 0
arity (Int n) = 0
arity (Fix a r) = 1
arity App = 2
arity Gen = 1
arity (Inst t) = 1
arity (Tuple n) = n
arity (Proj i) = 1
arity (Arith op) = 2
arity If0 = 3
arity Let = 2
arity (Pack h t) = 1
arity Open = 2
arity Ref = 1
arity Deref = 1
arity Assign = 2

-- the tree of a form with the place s over these parts; too few parts have none
abbrev pub step_tree : Spn → FStep → List Tm → Tm
step_tree s (Var i) ts = SVar s i
step_tree s (Int n) ts = SNum s n
step_tree s (Fix a r) (b ∷ ts) = SFix s (tree a) (tree r) b
step_tree s App (f ∷ x ∷ ts) = SApp s f x
step_tree s Gen (b ∷ ts) = SGen s b
step_tree s (Inst t) (e ∷ ts) = SInst s e (tree t)
step_tree s (Tuple n) ts = STuple s (tms ts)
step_tree s (Proj i) (e ∷ ts) = SProj s i e
step_tree s (Arith op) (a ∷ b ∷ ts) = SArith s op a b
step_tree s If0 (c ∷ a ∷ b ∷ ts) = SIf0 s c a b
step_tree s Let (a ∷ b ∷ ts) = SLet s a b
step_tree s (Pack h t) (e ∷ ts) = SPack s (tree h) e (tree t)
step_tree s Open (a ∷ b ∷ ts) = SOpen s a b
step_tree s Ref (e ∷ ts) = SRef s e
step_tree s Deref (e ∷ ts) = SDeref s e
step_tree s Assign (a ∷ b ∷ ts) = SAssign s a b
step_tree s _ _ = SVar s 0

-- the stack with the form in the place of its parts
abbrev pub stacked : Spn → FStep → List Tm → List Tm
stacked s step ts = take (length ts - arity step) ts ++ step_tree s step (drop (length ts - arity step) ts) ∷ []

-- the terms of a stack
abbrev pub trees_of : FStack → List Tm
trees_of s = map (part s.parts) s.numbers.items
