-- Instructions in front of a rest, blocks that are reserved with their headers and filled later, and what is put
-- round a value.
use Rattle.std.specs.Prelude.{◌≡◌, ℕ, zero, suc, ◌≤◌, ◌<◌, ◌&&◌, ◌||◌, List, [], ◌∷◌, map, drop, Bool, true, false}
use Rattle.std.specs.Prelude.{Option, Some, None, slice_get}
use Rattle.idx_core.specs.declared.span.Span.{Span}
use Rattle.t_types.specs.Tree.{TFile, NoRegs}
use Rattle.t_terms.specs.Tree as T
use Rattle.t_terms.specs.Tree.{TValue, TSeq, Then, Ends, TBlock}
use Rattle.t_terms.specs.Read.{instr}
use Rattle.t_terms.specs.declared.instr.Instr.{Instr}
use Rattle.a_terms.specs.Tree as a
use Rattle.a_terms.specs.Read.{atree, atrees}
use Rattle.a_terms.specs.NodeTrees.{a_values, no_value}
use Rattle.calc_core.specs.Row.{top}
use Rattle.a_terms.specs.declared.nodes.AWrap.{AWrap}
use Rattle.a_terms.specs.declared.nodes.AWrap.TheVariants.{Apply, Pack}
use Rattle.a_scope.specs.Scope.{homes, scope}
use Rattle.a_scope.specs.declared.scope.Entry.{Entry}
use Rattle.t_gen_rules.specs.Gen.{ty, tys, applied_to, inside, boxed, place, insert, instead, uses, used}
use Rattle.t_gen_rules.specs.Gen.{small, unnest, decl_code, call_code, test_code, header}
use Rattle.t_emit.specs.declared.emitter.Emitter.{Emitter}
use Rattle.t_emit.specs.declared.emitter.Target.{Target}
use Rattle.t_emit.specs.declared.headers.Third.{Third}
use Rattle.t_emit.specs.declared.calls.Call.{Call}
use Rattle.t_emit.specs.declared.calls.Saves.{Saves}

-- the instructions of a body, without their places, in front of the rest
abbrev pub onto : List (Instr × Span) → TSeq → TSeq
onto [] rest = rest
onto (x ∷ xs) rest = Then (instr x.0) (onto xs rest)

-- the code grows by what `more` puts in front of a rest
abbrev pub Grows : List (Instr × Span) → List (Instr × Span) → (TSeq → TSeq) → Type 0
Grows old new more = (rest : TSeq) → onto new rest ≡ onto old (more rest)

-- a block with its header, and without its code
abbrev pub reserved : ℕ → TFile → TBlock
reserved k f = record { owes = k; file = f; code = Ends T.Halt }

-- the block with this code
abbrev pub coded : TBlock → TSeq → TBlock
coded b c = record { owes = b.owes; file = b.file; code = c }

-- block n has this code
abbrev pub fill : ℕ → TSeq → List TBlock → List TBlock
fill n c [] = []
fill zero c (b ∷ bs) = coded b c ∷ bs
fill (suc n) c (b ∷ bs) = b ∷ fill n c bs

-- what is put round a value in place
abbrev pub wrap_small : ℕ → AWrap → TValue → TValue
wrap_small t (Apply ts) x = applied_to x (tys (atrees ts.items))
wrap_small t (Pack h s) x = T.Pack (ty (atree h)) (inside t x) (ty (atree s))

-- and the instructions for it
abbrev pub wrap_boxed : ℕ → AWrap → TValue → TSeq → TSeq
wrap_boxed t (Apply ts) x rest = rest
wrap_boxed t (Pack h s) x rest = boxed t x rest

-- what is put round the value of a data field
abbrev pub wrap_constant : AWrap → TValue → TValue
wrap_constant (Apply ts) v = applied_to v (tys (atrees ts.items))
wrap_constant (Pack h s) v = T.Pack (ty (atree h)) v (ty (atree s))

-- the register that the value is
abbrev pub bare : TValue → Option ℕ
bare (T.Plain (T.Reg r) []) = Some r
bare _ = None

-- a register after some were saved in others
abbrev pub seen : List (ℕ × ℕ) → ℕ → ℕ
seen [] q = q
seen (s ∷ xs) q = seen xs (instead s.1 s.0 q)

-- the registers of the variables then
abbrev pub after_saves : List (ℕ × ℕ) → List ℕ → List ℕ
after_saves [] m = m
after_saves (s ∷ xs) m = after_saves xs (map (instead s.1 s.0) m)

abbrev pub places : List Entry → List (ℕ × ℕ) → List ℕ
places es xs = after_saves xs (homes es)

-- a value in place, and the instructions for it
abbrev pub small_by : Emitter → a.AVal → TValue
small_by e v = small e.spare (homes e.vars.now) v

abbrev pub unnest_by : Emitter → a.AVal → TSeq → TSeq
unnest_by e v = unnest e.spare (homes e.vars.now) v

-- the instructions of a declaration
abbrev pub decl_by : Target → a.ADecl → TSeq → TSeq
decl_by t d = decl_code t.emitter.spare (homes t.emitter.vars.now) t.rd d

-- the test of an `if0`, whose third part is block at
abbrev pub test_by : Emitter → Third → a.AVal → ℕ → TSeq → TSeq
test_by e k v at = test_code e.spare k.names (homes e.vars.now) v at

-- that block without its code, where u says which variables it uses
abbrev pub third_block : Emitter → Third → (ℕ → Bool) → TBlock
third_block e k u = reserved k.names (header u (homes e.vars.now) (scope k.names e.vars.now))

-- what is left of a call from argument i on
abbrev pub call_from : ℕ → Call → Saves → TSeq
call_from i x s = call_code i s.free (places x.vars.now s.pairs.items) (a_values (drop i x.values.now))
    (top no_value (a_values x.values.now)) (tys (atrees x.types.now))

-- the variable that the value is
abbrev pub bare_var : a.AVal → Option ℕ
bare_var (a.Var n) = Some n
bare_var _ = None

-- whether the rest uses a variable by both of its names, where a declaration gives it one more
abbrev pub both_used : a.AVal → a.ATm → Bool
both_used (a.Var n) e = used e (suc n) && used e 0
both_used _ e = false

abbrev pub both_names : a.ADecl → a.ATm → Bool
both_names (a.Value v) e = both_used v e
both_names (a.Init v i w) e = both_used v e
both_names _ e = false

-- the variables whose registers the declared one does not get: those of the rest, and what is stored
abbrev pub kept : a.ADecl → a.ATm → ℕ → Bool
kept (a.Value v) e n = used e (suc n)
kept (a.Proj i v) e n = used e (suc n)
kept (a.Arith o v w) e n = used e (suc n)
kept (a.Unpack v) e n = used e (suc n)
kept (a.Malloc ts) e n = used e (suc n)
kept (a.Init v i w) e n = uses w n || used e (suc n)

-- the numbers from n on that u holds of, in ascending order
abbrev pub Listed : (ℕ → Bool) → ℕ → List ℕ → Type 0
Listed u n [] = (i : ℕ) → n ≤ i → u i ≡ false
Listed u n (x ∷ xs) = (n ≤ x) × ((i : ℕ) → n ≤ i → i < x → u i ≡ false) × (u x ≡ true) × Listed u (suc x) xs

-- the file with a variable's register, if there is one
abbrev pub with_type : ℕ → Option a.ATy → TFile → TFile
with_type r None f = f
with_type r (Some t) f = insert r (ty t) f

-- the file of these variables
abbrev pub chosen : List ℕ → List ℕ → List a.ATy → TFile
chosen [] m g = NoRegs
chosen (n ∷ xs) m g = with_type (place m n) (slice_get g n) (chosen xs m g)
