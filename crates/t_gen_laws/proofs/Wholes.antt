-- The generated program is well formed.
use Rattle.std.proofs.Common.{◌≡◌, ℕ, zero, suc, ◌+◌, ◌-◌, ◌<◌, ◌≤◌, List, [], ◌∷◌, ◌++◌, length, Some, refl, sym, ap}
use Rattle.std.proofs.Common.{◌∙◌, subst, arith, ⊎_elim, length-append, slice_get}
use Rattle.std.specs.Prelude.{◌||◌, ◌==◌, nat_lt, Bool, true, false, cond, not, ◌&&◌, map}
use Rattle.std.proofs.lemmas.Bool.{cond_both, eqb-true, eq-eqb, ltb-true, ltb-false, cases_order}
use Rattle.std.proofs.lemmas.Option.{slice_get_within}
use Rattle.a_terms.specs.Tree.{ATy, AInt, AVar, ATuple, ACode, AExists, ATys, NoATys, MoreATys, AFields, NoAFields}
use Rattle.a_terms.specs.Tree.{MoreAFields, AVal, Var, Num, Lab, Data, Apply, Pack, ADecl, Value, Proj, Arith, Unpack}
use Rattle.a_terms.specs.Tree.{Malloc, Init, ATm, Let, Call, If0, Halt, ABlk, AConsts, AProg, arity, ABelow}
use Rattle.a_terms.specs.Tree.{ABelow-types, ABelow-fields}
use Rattle.a_terms.specs.Typing.{data_fields, type_of, Fine, declared, more_vars, TypedDecl, All-have, TypedTerm}
use Rattle.a_terms.specs.Typing.{types_of}
use Rattle.a_terms.specs.Typing.{TypedBlocks, TypedData, TypedTuples, TypedProgram}
use Rattle.a_terms.specs.TypeLaws.{All-below, Args-below, args_below, declared_below, below_args, split_code}
use Rattle.a_terms.specs.TypeLaws.{split_data, split_applied, length_declared, length_maps, length_types_of}
use Rattle.a_terms.specs.Sizes.{bulk, bulk_types, bulk_fields, value_weight, values_weight, decl_weight, weight}
use Rattle.a_terms.specs.Sizes.{Blocks-fit, Data-fit, Tuples-fit, Fits-in}
use Rattle.a_terms.specs.SizeLaws.{All-small, Labels-small, small_declared, small_args, sum_least}
use Rattle.t_types.specs.Tree.{Ty, TFile, NoRegs, MoreRegs}
use Rattle.t_types.specs.WellFormed.{max_number, max_names, IsRegister, WellFormed, RegsAbove, WellFormedFields}
use Rattle.t_types.specs.WellFormed.{WellFormedTypes}
use Rattle.t_terms.specs.Tree as T
use Rattle.t_terms.specs.Tree.{TValue, TSeq, Then, Ends, TBlock}
use Rattle.t_terms.specs.Whole.{HasNoRegister, WellFormedValue, WellFormedSeq, WellFormedBlocks, WellFormedData}
use Rattle.t_terms.specs.Whole.{WellFormedHeap, WellFormedProgram}
use Rattle.t_gen_rules.specs.Gen.{ty, ty_args, ty_fields, tys, place, inside, small, boxed, unnest, stands, move, home}
use Rattle.t_gen_rules.specs.Gen.{settle, uses, used, top, over, arguments, free, owner, target, other_than, decl_code}
use Rattle.t_gen_rules.specs.Gen.{later}
use Rattle.t_gen_rules.specs.Gen.{owns, saved, above_saved, instead, places_saved, call_code, above, tvars, code}
use Rattle.t_gen_rules.specs.Gen.{insert}
use Rattle.t_gen_rules.specs.Gen.{header, extras, rows, firsts, seconds, generated_blocks, applied_to, constant}
use Rattle.t_gen_rules.specs.Gen.{data_of}
use Rattle.t_gen_rules.specs.Gen.{generated_heap, generated}
use Rattle.a_terms.specs.Bound.{thirds}
use Rattle.t_gen_laws.proofs.Covers.{length_rows}
use Rattle.t_gen_laws.proofs.Free.{free_within, spare_apart}
use Rattle.t_gen_laws.proofs.Places.{length_firsts}
use Rattle.t_gen_laws.specs.GenLaws.{length_extras}
use Rattle.t_gen_laws.proofs.Laying.{length_heap}

mutual
  type_whole : (t : ATy) (n : ℕ) → ABelow n t → n + bulk t ≤ max_names → WellFormed n (ty t)
  type_whole AInt n b le = tt
  type_whole (AVar i) n b le = b
  type_whole (ATuple fs) n b le = fields_whole fs n b le
  type_whole (ACode owes args) n b le =
      (omega arith, args_whole args 0 1 (n + owes) (omega arith) (omega arith) b.1 (omega arith))
  type_whole (AExists t) n b le = (omega arith, type_whole t (n + 1) b.1 (omega arith))

  args_whole : (ts : ATys) (low r n : ℕ) → low < r → r + arity ts ≤ suc max_names → ABelow-types n ts →
      n + bulk_types ts ≤ max_names → RegsAbove low n (ty_args ts r)
  args_whole NoATys low r n lt many b le = tt
  args_whole (MoreATys t ts) low r n lt many b le = (
    lt,
    omega arith,
    type_whole t n b.0 (omega arith),
    args_whole ts r (suc r) n (omega arith) (omega arith) b.1 (omega arith),
  )

  fields_whole : (fs : AFields) (n : ℕ) → ABelow-fields n fs → n + bulk_fields fs ≤ max_names →
      WellFormedFields n (ty_fields fs)
  fields_whole NoAFields n b le = tt
  fields_whole (MoreAFields t f fs) n b le = (type_whole t n b.0 (omega arith), fields_whole fs n b.1 (omega arith))

types_whole : (ts : ATys) (n : ℕ) → ABelow-types n ts → n + bulk_types ts ≤ max_names → WellFormedTypes n (tys ts)
types_whole NoATys n b le = tt
types_whole (MoreATys t ts) n b le = (type_whole t n b.0 (omega arith), types_whole ts n b.1 (omega arith))

vars_whole : (n k : ℕ) → n ≤ k → WellFormedTypes k (tvars n)
vars_whole zero k l = tt
vars_whole (suc n) k l = (omega arith, vars_whole n k (omega arith))

insert_whole : (low r n : ℕ) (t : Ty) (f : TFile) → low < r → r ≤ max_number → WellFormed n t → RegsAbove low n f →
    RegsAbove low n (insert r t f)
insert_whole low r n t NoRegs lt hi w h = (lt, hi, w, tt)
insert_whole low r n t (MoreRegs q u f) lt hi w h =
    cond_both (r == q) (MoreRegs r t f)
    (cond (nat_lt r q) (MoreRegs r t (MoreRegs q u f)) (MoreRegs q u (insert r t f))) (RegsAbove low n)
    (λ c. let same = eqb-true r q c in (lt, hi, w, subst (λ z. RegsAbove z n f) (sym same) h.3))
    (λ c. cond_both (nat_lt r q) (MoreRegs r t (MoreRegs q u f)) (MoreRegs q u (insert r t f)) (RegsAbove low n)
    (λ d. (lt, hi, w, (ltb-true r q d, h.1, h.2, h.3)))
    (λ d.
    let ge = ltb-false r q d in
    let apart : r ≡ q → ⊥ = λ z. clash (sym (eq-eqb r q z) ∙ c) in (
      h.0,
      h.1,
      h.2,
      insert_whole q r n t f
          (⊎_elim (λ z. absurd (apart z)) (λ z. ⊎_elim (λ y. absurd (omega arith)) (λ y. y) z) (cases_order r q)) hi w
          h.3,
    )))
  where
    clash : true ≡ false → ⊥
    clash y = cc

-- each of them is a register
abbrev Registers : List ℕ → Type 0
Registers [] = Unit {0}
Registers (r ∷ m) = IsRegister r × Registers m

place_in : (m : List ℕ) (n : ℕ) → n < length m → Registers m → IsRegister (place m n)
place_in [] n lt h = absurd (omega arith)
place_in (r ∷ m) zero lt h = h.0
place_in (r ∷ m) (suc n) lt h = place_in m n (omega arith) h.1

-- none of them is greater
abbrev Under : ℕ → List ℕ → Type 0
Under k [] = Unit {0}
Under k (r ∷ m) = (r ≤ k) × Under k m

under_more : (k j : ℕ) (m : List ℕ) → k ≤ j → Under k m → Under j m
under_more k j [] le h = tt
under_more k j (r ∷ m) le h = (omega (arith, h.0), under_more k j m le h.1)

under_place : (k : ℕ) (m : List ℕ) (n : ℕ) → Under k m → place m n ≤ k
under_place k [] n h = omega arith
under_place k (r ∷ m) zero h = h.0
under_place k (r ∷ m) (suc n) h = under_place k m n h.1

under_top : (b k : ℕ) (m : List ℕ) (u : ℕ → Bool) → b ≤ k → Under k m → top b m u ≤ k
under_top b k [] u le h = le
under_top b k (r ∷ m) u le h =
    let first : cond (u 0 && nat_lt b r) r b ≤ k =
    cond_both (u 0 && nat_lt b r) r b (λ x. x ≤ k) (λ c. h.0) (λ c. le) in
    under_top (cond (u 0 && nat_lt b r) r b) k m (λ n. u (suc n)) first h.1

rows_under : (n k : ℕ) → n ≤ k → Under k (rows n)
rows_under zero k le = tt
rows_under (suc n) k le = (le, rows_under n k (omega arith))

rows_in : (n : ℕ) → n ≤ max_number → Registers (rows n)
rows_in zero le = tt
rows_in (suc n) le = ((omega arith, le), rows_in n (omega arith))

header_whole : (n z : ℕ) (u : ℕ → Bool) (m : List ℕ) (g : List ATy) → n + z ≤ max_names → Registers m → All-below n g →
    All-small z g → RegsAbove 0 n (header u m g)
header_whole n z u m [] le h b s = tt
header_whole n z u [] (t ∷ g) le h b s = tt
header_whole n z u (r ∷ m) (t ∷ g) le h b s =
    let f = header (λ n. u (suc n)) m g in
    let rest = header_whole n z (λ n. u (suc n)) m g le h.1 b.1 s.1 in
    cond_both (u 0) (insert r (ty t) f) f (RegsAbove 0 n)
    (λ c. insert_whole 0 r n (ty t) f (omega (arith, h.0.0)) h.0.1 (type_whole t n b.0 (omega (arith, s.0))) rest)
    (λ c. rest)

more_small : (low m : ℕ) (prog : AProg) → low ≤ m → Labels-small low prog → Labels-small m prog
more_small low m prog le l =
    record { codes = λ i c e. omega (arith, l.codes i c e); data_in = λ i x e. omega (arith, l.data_in i x e) }

module _ (prog : AProg) (p z : ℕ) (room : length prog.blocks < p) (all : length prog.tuples ≤ z) where
  both_types : (k : ℕ) (us ts : List Ty) → WellFormedTypes k us → WellFormedTypes k ts → WellFormedTypes k (us ++ ts)
  both_types k [] ts a b = b
  both_types k (u ∷ us) ts a b = (a.0, both_types k us ts a.1 b)

  applied_whole : (k : ℕ) (v : TValue) (ts : List Ty) → WellFormedValue p z k v → WellFormedTypes k ts →
      WellFormedValue p z k (applied_to v ts)
  applied_whole k (T.Plain b us) ts a c = (a.0, both_types k us ts a.1 c)
  applied_whole k (T.Pack h v s) ts a c = a

  inside_whole : (k s : ℕ) (x : TValue) → IsRegister s → WellFormedValue p z k x → WellFormedValue p z k (inside s x)
  inside_whole k s (T.Plain b us) r h = h
  inside_whole k s (T.Pack y v w) r h = (r, tt)

  small_whole : (k : ℕ) (g : List ATy) (m : List ℕ) (v : AVal) (t : ATy) (s : ℕ) → length m ≡ length g → Registers m →
      IsRegister s → k + value_weight v ≤ max_names → Fine prog k g v → type_of prog g v ≡ Some t →
      WellFormedValue p z k (small s m v)
  small_whole k g m (Var i) t s n ms hs le f x = let w = slice_get_within g i t x in (place_in m i (omega arith) ms, tt)
  small_whole k g m (Num i) t s n ms hs le f x = (tt, tt)
  small_whole k g m (Lab l) t s n ms hs le f x =
      let c = split_code (slice_get prog.blocks l) t x in
      let w = slice_get_within prog.blocks l c.0 c.1 in (omega arith, tt)
  small_whole k g m (Data l) t s n ms hs le f x =
      let c = split_data (slice_get prog.tuples l) t x in
      let w = slice_get_within prog.tuples l c.0 c.1 in (omega arith, tt)
  small_whole k g m (Apply v ts) t s n ms hs le f x =
      let c = split_applied (type_of prog g v) ts t x in
      applied_whole k (small s m v) (tys ts) (small_whole k g m v c.0 s n ms hs (omega arith) f.0 c.1)
      (types_whole ts k f.1 (omega (arith, sum_least ts)))
  small_whole k g m (Pack h v u) t s n ms hs le f x = (
    type_whole h k f.2 (omega arith),
    inside_whole k s (small s m v) hs (small_whole k g m v _ s n ms hs (omega arith) f.1 f.5),
    type_whole u k f.3 (omega arith),
  )

  boxed_whole : (k s : ℕ) (x : TValue) (rest : TSeq) → k ≤ max_names → IsRegister s → WellFormedValue p z k x →
      WellFormedSeq p z k rest → WellFormedSeq p z k (boxed s x rest)
  boxed_whole k s (T.Plain b us) rest le r h c = c
  boxed_whole k s (T.Pack y v w) rest le r h c = ((r, h), le, c)

  unnest_whole : (k : ℕ) (g : List ATy) (m : List ℕ) (v : AVal) (t : ATy) (s : ℕ) (rest : TSeq) → length m ≡ length g →
      Registers m → IsRegister s → k + value_weight v ≤ max_names → Fine prog k g v → type_of prog g v ≡ Some t →
      WellFormedSeq p z k rest → WellFormedSeq p z k (unnest s m v rest)
  unnest_whole k g m (Var i) t s rest n ms hs le f x c = c
  unnest_whole k g m (Num i) t s rest n ms hs le f x c = c
  unnest_whole k g m (Lab l) t s rest n ms hs le f x c = c
  unnest_whole k g m (Data l) t s rest n ms hs le f x c = c
  unnest_whole k g m (Apply v ts) t s rest n ms hs le f x c =
      let d = split_applied (type_of prog g v) ts t x in unnest_whole k g m v d.0 s rest n ms hs (omega arith) f.0 d.1 c
  unnest_whole k g m (Pack h v u) t s rest n ms hs le f x c =
      unnest_whole k g m v _ s (boxed s (small s m v) rest) n ms hs (omega arith) f.1 f.5
      (boxed_whole k s (small s m v) rest (omega arith) hs (small_whole k g m v _ s n ms hs (omega arith) f.1 f.5) c)

  move_whole : (k r : ℕ) (x : TValue) (rest : TSeq) → k ≤ max_names → IsRegister r → WellFormedValue p z k x →
      WellFormedSeq p z k rest → WellFormedSeq p z k (move r x rest)
  move_whole k r x rest le hr h c =
      cond_both (stands r x) rest (Then (T.Mov r x) rest) (WellFormedSeq p z k) (λ e. c) (λ e. ((hr, h), le, c))

  settle_whole : (k s : ℕ) (x : TValue) (rest : TSeq) → k ≤ max_names → IsRegister s → WellFormedValue p z k x →
      WellFormedSeq p z k rest → WellFormedSeq p z k (settle s x rest)
  settle_whole k s (T.Plain (T.Reg r) []) rest le hs h c = c
  settle_whole k s (T.Plain (T.Reg r) (u ∷ us)) rest le hs h c = ((hs, h), le, c)
  settle_whole k s (T.Plain (T.Int i) us) rest le hs h c = ((hs, h), le, c)
  settle_whole k s (T.Plain (T.Label l) us) rest le hs h c = ((hs, h), le, c)
  settle_whole k s (T.Plain (T.Data d) us) rest le hs h c = ((hs, h), le, c)
  settle_whole k s (T.Pack y v w) rest le hs h c = ((hs, h), le, c)

  home_in : (k s : ℕ) (x : TValue) → IsRegister s → WellFormedValue p z k x → IsRegister (home s x)
  home_in k s (T.Plain (T.Reg r) []) hs h = h.0
  home_in k s (T.Plain (T.Reg r) (u ∷ us)) hs h = hs
  home_in k s (T.Plain (T.Int i) us) hs h = hs
  home_in k s (T.Plain (T.Label l) us) hs h = hs
  home_in k s (T.Plain (T.Data d) us) hs h = hs
  home_in k s (T.Pack y v w) hs h = hs

  -- the register of a new variable, where d of them are bound and the end of the rest has arguments
  free_in : (d : ℕ) (m : List ℕ) (u : ℕ → Bool) (e : ATm) → Under (d + arguments e) m →
      suc (d + arguments e) ≤ max_number → IsRegister (free m u e) × (free m u e ≤ suc (d + arguments e))
  free_in d m u e lo hi =
      let f = free_within (suc (d + arguments e)) m u e
      (omega (arith, under_top 0 (d + arguments e) m u (omega arith) lo)) (omega arith) in
      ((f.0, omega (arith, f.1, hi)), f.1)

  owner_in : (d : ℕ) (g : List ATy) (m : List ℕ) (v : AVal) (t : ATy) (u : ℕ → Bool) (e : ATm) → length m ≡ length g →
      Registers m → Under (d + arguments e) m → suc (d + arguments e) ≤ max_number → type_of prog g v ≡ Some t →
      IsRegister (owner m v u e) × (owner m v u e ≤ suc (d + arguments e))
  owner_in d g m (Var n) t u e l ms lo hi x =
      cond_both (used e (suc n) && used e 0) (free m u e) (place m n) (λ r. IsRegister r × (r ≤ suc (d + arguments e)))
      (λ c. free_in d m u e lo hi)
      (λ c. let w = slice_get_within g n t x in let y = under_place (d + arguments e) m n lo in
      (place_in m n (omega arith) ms, omega (arith, y)))
  owner_in d g m (Num i) t u e l ms lo hi x = free_in d m u e lo hi
  owner_in d g m (Lab i) t u e l ms lo hi x = free_in d m u e lo hi
  owner_in d g m (Data i) t u e l ms lo hi x = free_in d m u e lo hi
  owner_in d g m (Apply v ts) t u e l ms lo hi x = free_in d m u e lo hi
  owner_in d g m (Pack h v s) t u e l ms lo hi x = free_in d m u e lo hi

  target_in : (d k : ℕ) (g : List ATy) (m : List ℕ) (x : ADecl) (e : ATm) → length m ≡ length g → Registers m →
      Under (d + arguments e) m → suc (d + arguments e) ≤ max_number → TypedDecl prog k g x → IsRegister (target m x e)
      × (target m x e ≤ suc (d + arguments e))
  target_in d k g m (Value v) e l ms lo hi a = owner_in d g m v a.0 (λ n. used e (suc n)) e l ms lo hi a.1.is
  target_in d k g m (Proj i v) e l ms lo hi a = free_in d m (λ n. used e (suc n)) e lo hi
  target_in d k g m (Arith o v w) e l ms lo hi a = free_in d m (λ n. used e (suc n)) e lo hi
  target_in d k g m (Unpack v) e l ms lo hi a = free_in d m (λ n. used e (suc n)) e lo hi
  target_in d k g m (Malloc ts) e l ms lo hi a = free_in d m (λ n. used e (suc n)) e lo hi
  target_in d k g m (Init v i w) e l ms lo hi a =
      owner_in d g m v (ATuple a.0) (λ n. uses w n || used e (suc n)) e l ms lo hi a.3.is

  decl_whole : (k : ℕ) (g : List ATy) (m : List ℕ) (x : ADecl) (r t : ℕ) (rest : TSeq) → length m ≡ length g →
      Registers m → IsRegister r → IsRegister t → IsRegister (suc t) → k + decl_weight x ≤ max_names →
      TypedDecl prog k g x → WellFormedSeq p z (more_vars x k) rest → WellFormedSeq p z k (decl_code t m r x rest)
  decl_whole k g m (Value v) r t rest n ms hr ht ht2 le a s =
      let x = small_whole k g m v a.0 t n ms ht (omega arith) a.1.fine a.1.is in
      unnest_whole k g m v a.0 t _ n ms ht (omega arith) a.1.fine a.1.is
      (move_whole k r (small t m v) rest (omega arith) hr x s)
  decl_whole k g m (Proj i v) r t rest n ms hr ht ht2 le a s =
      let x = small_whole k g m v (ATuple a.0) r n ms hr (omega arith) a.3.fine a.3.is in
      unnest_whole k g m v (ATuple a.0) r _ n ms hr (omega arith) a.3.fine a.3.is
      (settle_whole k r (small r m v) _ (omega arith) hr x
      ((hr, home_in k r (small r m v) hr x, omega arith), omega arith, s))
  decl_whole k g m (Arith o v w) r t rest n ms hr ht ht2 le a s =
      let x = small_whole k g m v AInt t n ms ht (omega arith) a.0.fine a.0.is in
      let y = small_whole k g m w AInt (suc t) n ms ht2 (omega arith) a.1.fine a.1.is in
      unnest_whole k g m v AInt t _ n ms ht (omega arith) a.0.fine a.0.is
      (settle_whole k t (small t m v) _ (omega arith) ht x
      (unnest_whole k g m w AInt (suc t) _ n ms ht2 (omega arith) a.1.fine a.1.is
      ((hr, home_in k t (small t m v) ht x, y), omega arith, s)))
  decl_whole k g m (Unpack v) r t rest n ms hr ht ht2 le a s =
      let more : suc k ≡ k + 1 = omega arith in
      let x = small_whole k g m v (AExists a.0) r n ms hr (omega arith) a.1.fine a.1.is in
      unnest_whole k g m v (AExists a.0) r _ n ms hr (omega arith) a.1.fine a.1.is
      ((hr, x), omega arith, subst (λ q. WellFormedSeq p z q rest) more s)
  decl_whole k g m (Malloc ts) r t rest n ms hr ht ht2 le a s = ((hr, types_whole ts k a (omega arith)), omega arith, s)
  decl_whole k g m (Init v i w) r t rest n ms hr ht ht2 le a s =
      let q = other_than r t in
      let own = spare_apart r t in
      let hq : IsRegister q = (omega (arith, ht.0, own.0), omega (arith, ht2.1, own.1)) in
      let x = small_whole k g m v (ATuple a.0) q n ms hq (omega arith) a.3.fine a.3.is in
      let y = small_whole k g m w a.2 q n ms hq (omega arith) a.4.fine a.4.is in
      unnest_whole k g m v (ATuple a.0) q _ n ms hq (omega arith) a.3.fine a.3.is
      (move_whole k r (small q m v) _ (omega arith) hr x
      (unnest_whole k g m w a.2 q _ n ms hq (omega arith) a.4.fine a.4.is
      (settle_whole k q (small q m w) _ (omega arith) hq y
      ((hr, omega arith, home_in k q (small q m w) hq y), omega arith, s))))

  saved_whole : (k : ℕ) (o : Bool) (b r : ℕ) (rest : TSeq) → k ≤ max_names → IsRegister b → IsRegister r →
      WellFormedSeq p z k rest → WellFormedSeq p z k (saved o b r rest)
  saved_whole k false b r rest le hb hr s = s
  saved_whole k true b r rest le hb hr s = ((hb, (hr, tt)), le, s)

  instead_in : (b r : ℕ) (m : List ℕ) → IsRegister b → Registers m → Registers (map (instead b r) m)
  instead_in b r [] hb h = tt
  instead_in b r (q ∷ m) hb h = (cond_both (q == r) b q IsRegister (λ c. hb) (λ c. h.0), instead_in b r m hb h.1)

  places_in : (o : Bool) (b r : ℕ) (m : List ℕ) → IsRegister b → Registers m → Registers (places_saved o b r m)
      × (length (places_saved o b r m) ≡ length m)
  places_in false b r m hb h = (h, refl)
  places_in true b r m hb h = (instead_in b r m hb h, length_maps (instead b r) m)

  above_in : (o : Bool) (b : ℕ) → (b ≤ above_saved o b) × (above_saved o b ≤ suc b)
  above_in false b = (omega arith, omega arith)
  above_in true b = (omega arith, omega arith)

  call_whole : (k : ℕ) (g : List ATy) (c : AVal) (t : ATy) (ts : ATys) (vs : List AVal) (us : ATys) (j b : ℕ)
      (m : List ℕ) → length m ≡ length g → Registers m → 1 ≤ j → j + length vs ≤ max_number → 1 ≤ b →
      b + length vs ≤ max_number → k + (value_weight c + (bulk_types ts + values_weight vs)) ≤ max_names →
      Fine prog k g c → type_of prog g c ≡ Some t → ABelow-types k ts → All-have prog k g vs us →
      WellFormedSeq p z k (call_code j b m vs c (tys ts))
  call_whole k g c t ts [] us j b m n ms lj hj lb hb le f x bs a =
      let hb2 : IsRegister b = (lb, omega arith) in
      unnest_whole k g m c t b _ n ms hb2 (omega arith) f x
      (applied_whole k (small b m c) (tys ts) (small_whole k g m c t b n ms hb2 (omega arith) f x)
      (types_whole ts k bs (omega arith)))
  call_whole k g c t ts (v ∷ vs) NoATys j b m n ms lj hj lb hb le f x bs a = absurd a
  call_whole k g c t ts (v ∷ vs) (MoreATys t1 us) j b m n ms lj hj lb hb le f x bs a =
      let o = not (owns j m v) && later j m vs c in
      let hb2 : IsRegister b = (lb, omega arith) in
      let hj2 : IsRegister j = (lj, omega arith) in
      let l = places_saved o b j m in
      let b2 = above_saved o b in
      let bound = above_in o b in
      let here = places_in o b j m hb2 ms in
      let hb3 : IsRegister b2 = (omega (arith, bound.0), omega (arith, bound.1)) in
      let n2 : length l ≡ length g = here.1 ∙ n in
      saved_whole k o b j _ (omega arith) hb2 hj2
      (unnest_whole k g l v t1 b2 _ n2 here.0 hb3 (omega arith) a.0.fine a.0.is
      (move_whole k j (small b2 l v) _ (omega arith) hj2
      (small_whole k g l v t1 b2 n2 here.0 hb3 (omega arith) a.0.fine a.0.is)
      (call_whole k g c t ts vs us (suc j) b2 l n2 here.0 (omega arith) (omega arith) hb3.0 (omega (arith, bound.1))
      (omega arith) f x bs a.1)))

  decl_least : (x : ADecl) (k : ℕ) → (2 ≤ decl_weight x) × (more_vars x k ≤ k + 1)
  decl_least (Value v) k = (omega arith, omega arith)
  decl_least (Proj i v) k = (omega arith, omega arith)
  decl_least (Arith o v w) k = (omega arith, omega arith)
  decl_least (Unpack v) k = (omega arith, omega arith)
  decl_least (Malloc ts) k = (omega arith, omega arith)
  decl_least (Init v i w) k = (omega arith, omega arith)

  weight_least : (e : ATm) → arguments e + 2 ≤ weight e
  weight_least (Let x e) = omega (arith, weight_least e)
  weight_least (Call v ts vs) = omega arith
  weight_least (If0 v a b) = omega (arith, weight_least a)
  weight_least (Halt v) = omega arith

  -- d bounds the registers, but for those that the arguments of the end are wanted in
  term_whole : (e : ATm) (d k : ℕ) (g : List ATy) (m : List ℕ) (at : ℕ) → length m ≡ length g → Registers m →
      Under (d + arguments e) m → d + weight e ≤ max_names → k + weight e ≤ max_names → at + thirds e ≤ p →
      TypedTerm prog k g e → WellFormedSeq p z k (code k m at e)
  term_whole (Let x e) d k g m at n ms lo many le l a =
      let least = decl_least x k in
      let more = weight_least e in
      let here = target_in d k g m x e n ms lo (omega (arith, more)) a.0 in
      let t = under_top 0 (d + arguments e) m (used (Let x e)) (omega arith) lo in
      decl_whole k g m x (target m x e) (over m (used (Let x e))) _ n ms here.0 (omega arith, omega (arith, t, more))
      (omega arith, omega (arith, t, more)) (omega arith) a.0
      (term_whole e (suc d) (more_vars x k) (declared prog g x) (target m x e ∷ m) at
      (ap suc n ∙ sym (length_declared prog g x)) (here.0, ms)
      (omega (arith, here.1), under_more (d + arguments e) (suc d + arguments e) m (omega arith) lo)
      (omega (arith, least.0)) (omega (arith, least.0, least.1)) l a.1)
  term_whole (Call v ts vs) d k g m at n ms lo many le l a =
      let t = under_top (length vs) (d + length vs) m (used (Call v ts vs)) (omega arith) lo in
      call_whole k g v a.0 ts vs a.1 1 (above m v vs) m n ms (omega arith) (omega arith) (omega arith)
      (omega (arith, t)) (omega arith) a.2.fine a.2.is a.3 a.5
  term_whole (If0 v x y) d k g m at n ms lo many le l a =
      let d2 = over m (used (If0 v x y)) in
      let t = under_top 0 (d + arguments x) m (used (If0 v x y)) (omega arith) lo in
      let more = weight_least x in
      let hd : IsRegister d2 = (omega arith, omega (arith, t, more)) in
      let s = small_whole k g m v AInt d2 n ms hd (omega arith) a.0.fine a.0.is in
      unnest_whole k g m v AInt d2 _ n ms hd (omega arith) a.0.fine a.0.is
      (settle_whole k d2 (small d2 m v) _ (omega arith) hd s (
        (home_in k d2 (small d2 m v) hd s, (omega arith, vars_whole k k (omega arith))),
        omega arith,
        term_whole x d k g m (suc at) n ms lo (omega arith) (omega arith) (omega arith) a.1,
      ))
  term_whole (Halt v) d k g m at n ms lo many le l a =
      let d2 = over m (uses v) in
      let t = under_top 0 (d + 0) m (uses v) (omega arith) lo in
      let hd : IsRegister d2 = (omega arith, omega (arith, t)) in
      unnest_whole k g m v AInt d2 _ n ms hd (omega arith) a.fine a.is
      (move_whole k 1 (small d2 m v) (Ends T.Halt) (omega arith) (omega arith, omega arith)
      (small_whole k g m v AInt d2 n ms hd (omega arith) a.fine a.is) tt)

  both_whole : (xs ys : List TBlock) → WellFormedBlocks p z xs → WellFormedBlocks p z ys →
      WellFormedBlocks p z (xs ++ ys)
  both_whole [] ys a b = b
  both_whole (x ∷ xs) ys a b = (a.0, both_whole xs ys a.1 b)

  module _ (ok : Args-below prog) (low : ℕ) (labels : Labels-small low prog) where
    -- z2 bounds the types in scope, and is no less than those of the labels
    extras_whole : (e : ATm) (d k z2 : ℕ) (g : List ATy) (m : List ℕ) (at : ℕ) → length m ≡ length g → Registers m →
        Under (d + arguments e) m → d + weight e ≤ max_names → k + (z2 + weight e) ≤ max_names → low ≤ z2 →
        at + thirds e ≤ p → All-below k g → All-small z2 g → TypedTerm prog k g e →
        WellFormedBlocks p z (extras prog k m g at e)
    extras_whole (Let x e) d k z2 g m at n ms un many le lo l b s a =
        let least = decl_least x k in
        let more = weight_least e in
        let here = target_in d k g m x e n ms un (omega (arith, more, least.0)) a.0 in
        extras_whole e (suc d) (more_vars x k) (z2 + decl_weight x - 2) (declared prog g x) (target m x e ∷ m) at
        (ap suc n ∙ sym (length_declared prog g x)) (here.0, ms)
        (omega (arith, here.1), under_more (d + arguments e) (suc d + arguments e) m (omega arith) un)
        (omega (arith, least.0)) (omega (arith, least.0, least.1)) (omega (arith, least.0)) l
        (declared_below prog ok k g b x a.0)
        (small_declared prog z2 (more_small low z2 prog lo labels) g s x (z2 + decl_weight x - 2)
        (omega (arith, least.0))) a.1
    extras_whole (Call v ts vs) d k z2 g m at n ms un many le lo l b s a = tt
    extras_whole (If0 v x y) d k z2 g m at n ms un many le lo l b s a =
        let more = weight_least x in
        let d2 = d + arguments x in
        let un2 = under_more (d + arguments x) (d2 + arguments y) m (omega arith) un in (
          (
            omega arith,
            header_whole k z2 (used y) m g (omega arith) ms b s,
            term_whole y d2 k g m (suc at + thirds x) n ms un2 (omega (arith, more)) (omega arith)
                (omega arith) a.2,
          ),
          both_whole (extras prog k m g (suc at) x) (extras prog k m g (suc at + thirds x) y)
              (extras_whole x d k z2 g m (suc at) n ms un (omega arith) (omega arith) lo (omega arith) b s a.1)
              (extras_whole y d2 k z2 g m (suc at + thirds x) n ms un2 (omega (arith, more)) (omega arith) lo
              (omega arith) b s a.2),
        )
    extras_whole (Halt v) d k z2 g m at n ms un many le lo l b s a = tt

    blocks_whole : (some : List ABlk) (at : ℕ) → at + length (seconds prog some at) ≤ p → TypedBlocks prog some →
        Blocks-fit low max_names some → WellFormedBlocks p z (firsts some at)
        × WellFormedBlocks p z (seconds prog some at)
    blocks_whole [] at l a f = (tt, tt)
    blocks_whole (b ∷ some) at l a f =
        let g = types_of b.args [] in
        let m = rows (arity b.args) in
        let long = length_rows (arity b.args) in
        let n : length m ≡ length g = long ∙ sym (length_types_of b.args) in
        let es = extras prog b.owes m g at b.body in
        let rest = seconds prog some (at + thirds b.body) in
        let len = length_extras prog b.owes m g at b.body in
        let all = length-append es rest in
        let r = blocks_whole some (at + thirds b.body) (omega (arith, len, all)) a.1 f.1 in
        let below = below_args b.owes b.args [] a.0.0 tt in
        let small = small_args low b.args [] (omega (arith, f.0.0)) tt in
        let le : arity b.args + weight b.body ≤ max_names = omega (arith, f.0.0, f.0.1) in
        let ms = rows_in (arity b.args) (omega (arith, f.0.0, f.0.1)) in
        let un = rows_under (arity b.args) (arity b.args + arguments b.body) (omega arith) in
        let ke : b.owes + weight b.body ≤ max_names = omega (arith, f.0.1) in
        let wide = args_whole b.args 0 1 b.owes (omega arith) (omega (arith, f.0.0, f.0.1)) a.0.0
        (omega (arith, f.0.0, f.0.1)) in
        let kl : b.owes + (low + weight b.body) ≤ max_names = f.0.1 in (
          (
            (
              omega (arith, f.0.1),
              wide,
              term_whole b.body (arity b.args) b.owes g m at n ms un le ke (omega (arith, len, all)) a.0.1,
            ),
            r.0,
          ),
          both_whole es rest
              (extras_whole b.body (arity b.args) b.owes low g m at n ms un le kl (omega arith)
              (omega (arith, len, all)) below small a.0.1) r.1,
        )

  -- the data
  applied_register : (v : TValue) (ts : List Ty) → HasNoRegister v → HasNoRegister (applied_to v ts)
  applied_register (T.Plain (T.Reg r) us) ts a = a
  applied_register (T.Plain (T.Int i) us) ts a = tt
  applied_register (T.Plain (T.Label l) us) ts a = tt
  applied_register (T.Plain (T.Data d) us) ts a = tt
  applied_register (T.Pack h v s) ts a = a

  no_variable : (n : ℕ) (t : ATy) → type_of prog [] (Var n) ≡ Some t → ⊥
  no_variable n t e = cc

  constant_whole : (v : AVal) (t : ATy) → value_weight v ≤ max_names → Fine prog 0 [] v → type_of prog [] v ≡ Some t →
      WellFormedValue p z 0 (constant v) × HasNoRegister (constant v)
  constant_whole (Var n) t le f x = absurd (no_variable n t x)
  constant_whole (Num i) t le f x = ((tt, tt), tt)
  constant_whole (Lab l) t le f x =
      let c = split_code (slice_get prog.blocks l) t x in
      let w = slice_get_within prog.blocks l c.0 c.1 in ((omega arith, tt), tt)
  constant_whole (Data l) t le f x =
      let c = split_data (slice_get prog.tuples l) t x in
      let w = slice_get_within prog.tuples l c.0 c.1 in ((omega arith, tt), tt)
  constant_whole (Apply v ts) t le f x =
      let c = split_applied (type_of prog [] v) ts t x in
      let r = constant_whole v c.0 (omega arith) f.0 c.1 in (
        applied_whole 0 (constant v) (tys ts) r.0 (types_whole ts 0 f.1 (omega (arith, sum_least ts))),
        applied_register (constant v) (tys ts) r.1,
      )
  constant_whole (Pack h v u) t le f x =
      let r = constant_whole v _ (omega arith) f.1 f.5 in
      ((type_whole h 0 f.2 (omega arith), r.0, type_whole u 0 f.3 (omega arith)), r.1)

  data_whole : (low : ℕ) (cs : AConsts) → low ≤ max_names → TypedData prog cs → Data-fit low max_names cs →
      WellFormedData p z (data_of cs)
  data_whole low [] le a f = tt
  data_whole low (c ∷ cs) le a f =
      let r = constant_whole c.value c.kind f.0.1 a.0.0.fine a.0.0.is in
      ((r.0, r.1, type_whole c.kind 0 a.0.1 (omega (arith, f.0.0))), data_whole low cs le a.1 f.1)

  heap_whole : (low : ℕ) (xs : List AConsts) → low ≤ max_names → TypedTuples prog xs → Tuples-fit low max_names xs →
      WellFormedHeap p z (generated_heap xs)
  heap_whole low [] le a f = tt
  heap_whole low (x ∷ xs) le a f = (data_whole low x le a.0 f.0, heap_whole low xs le a.1 f.1)

codes_small : (low : ℕ) (bs : List ABlk) → Blocks-fit low max_names bs → (l : ℕ) (b : ABlk) → slice_get bs l ≡ Some b →
    bulk (ACode b.owes b.args) ≤ low
codes_small low [] f l b e = cc
codes_small low (x ∷ bs) f zero b e =
    let y : x ≡ b = cc in omega (arith, f.0.0, ap (λ z. z.owes + (arity z.args + bulk_types z.args)) y)
codes_small low (x ∷ bs) f (suc l) b e = codes_small low bs f.1 l b e

fields_small : (low : ℕ) (cs : AConsts) → Data-fit low max_names cs → bulk_fields (data_fields cs) ≤ low
fields_small low [] f = omega arith
fields_small low (c ∷ cs) f = omega (arith, f.0.0, fields_small low cs f.1)

data_small : (low : ℕ) (xs : List AConsts) → Tuples-fit low max_names xs → (l : ℕ) (x : AConsts) →
    slice_get xs l ≡ Some x → bulk_fields (data_fields x) ≤ low
data_small low [] f l x e = cc
data_small low (y ∷ xs) f zero x e =
    let z : y ≡ x = cc in omega (arith, fields_small low y f.0, ap (λ q. bulk_fields (data_fields q)) z)
data_small low (y ∷ xs) f (suc l) x e = data_small low xs f.1 l x e

pub whole : (p : AProg) (main : ATm) → TypedProgram p main → Fits-in max_names p main →
    WellFormedProgram (generated p main)
whole p main q f =
    let at = suc (length p.blocks) in
    let at0 = at + thirds main in
    let fs = firsts p.blocks at0 in
    let es = extras p 0 [] [] at main in
    let ss = seconds p p.blocks at0 in
    let n = length (generated_blocks p main) in
    let z = length (generated_heap p.tuples) in
    let l1 = length_firsts p.blocks at0 in
    let l2 = length_extras p 0 [] [] at main in
    let l3 = length-append fs (es ++ ss) in
    let l4 = length-append es ss in
    let l5 = length_heap p.tuples in
    let room : length p.blocks < n = omega (arith, l1, l3) in
    let all : length p.tuples ≤ z = omega (arith, l5) in
    let ok = args_below p q.blocks q.tuples in
    let labels : Labels-small f.0 p =
    record { codes = codes_small f.0 p.blocks f.1; data_in = data_small f.0 p.tuples f.2 } in
    let le : 0 + weight main ≤ max_names = omega (arith, f.3) in
    let kl : 0 + (f.0 + weight main) ≤ max_names = omega (arith, f.3) in
    let low : f.0 ≤ max_names = omega (arith, f.3) in
    let r = blocks_whole p n z room all ok f.0 labels p.blocks at0 (omega (arith, l1, l2, l3, l4)) q.blocks f.1 in (
      omega arith,
      (
        (
          omega arith,
          tt,
          term_whole p n z room all main 0 0 [] [] at refl tt tt le le (omega (arith, l1, l2, l3, l4)) q.main_ok,
        ),
        both_whole p n z room all fs (es ++ ss) r.0
            (both_whole p n z room all es ss
            (extras_whole p n z room all ok f.0 labels main 0 0 f.0 [] [] at refl tt tt le kl (omega arith)
            (omega (arith, l1, l2, l3, l4)) tt tt q.main_ok) r.1),
      ),
      heap_whole p n z room all f.0 p.tuples low q.tuples f.2,
    )
