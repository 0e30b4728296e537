-- What is spilled of an accepted program is accepted.
use Rattle.std.proofs.Common.{◌≡◌, ℕ, zero, suc, ◌+◌, ◌<◌, ◌≤◌, true, List, [], ◌∷◌, length}
use Rattle.std.proofs.Common.{map, Option, Some, None, refl, sym, ap, ap₂, ◌∙◌, subst, arith, inl, inr, ◌⊎◌, ⊎_elim}
use Rattle.std.proofs.Common.{slice_get}
use Rattle.std.specs.Prelude.{◌≢◌, option_map}
use Rattle.std.proofs.Math.Path.{fun_ext}
use Rattle.std.proofs.lemmas.Bool.{cases_eq}
use Rattle.t_types.specs.Tree.{Ty, IntTy, CodeTy, ExistsTy, TupleTy, TFile, NoRegs, MoreRegs, NoFields}
use Rattle.t_types.specs.Tree.{shift, shift_file, Below, BelowFile, BelowTypes}
use Rattle.t_types.specs.Fields.{AField, filled, empty_fields}
use Rattle.t_types.specs.Fits.{FitsFile, RegTypes, lookup}
use Rattle.t_terms.specs.Tree.{Reg, Int, Label, Data, TValue, Plain, Pack, TInstr, Arith, Bnz, Ld, Malloc, Mov}
use Rattle.t_terms.specs.Tree.{St, Unpack, Jmp, Halt, TSeq, Then, Ends, TBlock, TData, TProg, names_after}
use Rattle.t_terms.specs.Whole.{WellFormedValue, WellFormedSeq, WellFormedBlocks, WellFormedProgram}
use Rattle.t_terms.specs.Registers.{with_reg, raised, no_types}
use Rattle.t_rules.specs.Rules.{Has, Enters, Typed, SeqAccepted, BlocksAccepted, DataAccepted, HeapAccepted}
use Rattle.t_rules.specs.Rules.{FirstTakesNothing, Accepted}
use Rattle.t_spill_rules.specs.Spill.{high_part, frame, frame_reg, slot_reg, first_reg, second_reg, made_reg}
use Rattle.t_spill_rules.specs.Spill.{saved_reg, sp, sp_regs, sp_fields, sp_file, ins, or_int, type_of}
use Rattle.t_spill_rules.specs.Spill.{type_in, field_type, filled_type, hidden_type, target_file, next, reg, kept}
use Rattle.t_spill_rules.specs.Spill.{Held, Layout, layout, at_home}
use Rattle.t_spill_rules.specs.Spill.{second_at, target, before, defines, into, Way, Stays, Holds, Fills, Gathers}
use Rattle.t_spill_rules.specs.Spill.{way_of, way}
use Rattle.t_spill_rules.specs.Spill.{after_way, after, slots_by, used_by, slots, finish, ended, code, sp_block}
use Rattle.t_spill_rules.specs.Spill.{sp_blocks, sp_data, entry, spilled_above}
use Rattle.t_spill_rules.proofs.Parts.{stepped, step_is}
use Rattle.t_spill_laws.proofs.TypeLaws.{fits_sp, field_sp, filled_sp, empty_sp}
use Rattle.t_spill_laws.proofs.TypeLaws.{below_sp, below_regs, below_types, below_split}
use Rattle.t_spill_laws.proofs.Files.{look_same, look_other, Ascends, lookup_ins, raised_lookup, fits_self, look_sp}
use Rattle.t_spill_laws.proofs.Files.{fits_split, split_low, split_frame}
use Rattle.t_spill_laws.proofs.Computed.{value_is, next_is, ascends_next}
use Rattle.t_spill_laws.proofs.Live.{kept_fits, kept_accepted, kept_sub}
use Rattle.t_spill_laws.proofs.Scopes.{ScopedRegs, scoped_regs, scoped_at, below_scoped, LabelsScoped, DataScoped}
use Rattle.t_spill_laws.proofs.Scopes.{scoped_next}
use Rattle.t_spill_laws.proofs.Scopes.{below_regs as below_file, scoped_ascends, scoped_kept, scoped_target}
use Rattle.t_spill_laws.proofs.Scopes.{labels_scoped}
use Rattle.t_spill_laws.proofs.Scopes.{data_scoped}
use Rattle.t_spill_laws.proofs.Homes.{regular_up, sound_up, Regular, Nearly, Kept, ReadyFor, Ready, UpTo, at_far}
use Rattle.t_spill_laws.proofs.Homes.{into_far, WayFits, way_fits, regular_nearly, regular_ready, stored_far}
use Rattle.t_spill_laws.proofs.Homes.{gathered_regular, way_ready, stored_at, used_is}
use Rattle.t_spill_laws.proofs.Located.{HomeHas, home_same, old_same, Located, located_same, located_raised, low_known}
use Rattle.t_spill_laws.proofs.Located.{entered_at, Room}
use Rattle.t_spill_laws.proofs.Located.{room_same, room_raised, Loaded, loaded_same, defined}
use Rattle.t_spill_laws.proofs.Framing.{Labels, Tuples, value_sp, load_ok, load_value_ok, build_ok, finish_ok}

module _ (m : ℕ) (P Q : TProg) (labels : Labels m P Q) (tuples : Tuples m P Q) where
  -- a jump's target
  target_is : (file : TFile) (v : TValue) (n : ℕ) (k : Enters P n (lookup file) v) →
      target_file (type_of P file v) ≡ k.0
  target_is file v n k = ap target_file (value_is P n file v (CodeTy 0 k.0) k.1)

  -- the type that an instruction gives its register
  given : (rd : ℕ) (u : Ty) (x : TFile) → sp m (or_int (lookup (ins rd u x) rd)) ≡ sp m u
  given rd u x = ap (λ o. sp m (or_int o)) (ap (λ g. g rd) (lookup_ins rd u x) ∙ look_same (lookup x) rd u)

  or_below : (n r : ℕ) (x : TFile) → ScopedRegs 0 n x → Below n (sp m (or_int (lookup x r)))
  or_below n r x h = go (lookup x r) refl
    where
      go : (o : Option Ty) → lookup x r ≡ o → Below n (sp m (or_int o))
      go None e = tt
      go (Some t) e = below_sp m n t (below_scoped n t (scoped_at n 0 x r t h e))

  -- the types of slots are in scope
  by_below : (n : ℕ) (w : Way) (t : Ty) (ts : List Ty) → Below n t → BelowTypes n ts → BelowTypes n (slots_by w t ts)
  by_below n Stays t ts h k = k
  by_below n Holds t ts h k = k
  by_below n Fills t ts h k = (h, k)
  by_below n Gathers t ts h k = tt

  -- there are none before an unpack
  no_slots : (i : TInstr) (c : TSeq) (used n : ℕ) (t : Ty) (ts : List Ty) →
      (names_after i n ≡ n → BelowTypes n (slots_by (way m used i c) t ts)) →
      BelowTypes n (slots_by (way m used i c) t ts)
  no_slots (Unpack rd v) c used n t ts h = tt
  no_slots _ c used n t ts h = h refl

  module _ (p q : ℕ) (files : LabelsScoped P) (fields : DataScoped P) where
    pub slots_below : (c : TSeq) (file : TFile) (used n : ℕ) → ScopedRegs 0 n file → WellFormedSeq p q n c →
        SeqAccepted P n (lookup file) c →
        BelowTypes n (slots m P used file c)
    slots_below (Ends e) file used n h w k = tt
    slots_below (Then i c) file used n h w k =
        let to = kept P file i c in
        let used2 = used_by (way m used i c) used in
        let acc = subst (λ z. SeqAccepted P (names_after i n) z c) (next_is P n file i k.0 k.1) k.2 in
        let nx = scoped_next P p q files fields i n file k.0 h w.0 k.1 in
        let rest = slots_below c to used2 (names_after i n)
        (scoped_kept P p q files fields i (names_after i n) file c nx) w.2
        (kept_accepted P i (names_after i n) file c acc) in
        no_slots i c used n _ _ (λ e.
        by_below n (way m used i c) _ _
        (subst (λ z. Below z (sp m (or_int (lookup (next P file i) (defines i))))) e
        (or_below (names_after i n) (defines i) (next P file i) nx))
        (subst (λ z. BelowTypes z (slots m P (used_by (way m used i c) used) (kept P file i c) c)) e rest))

    below_target : (n : ℕ) (file : TFile) (v : TValue) → ScopedRegs 0 n file → WellFormedValue p q n v →
        Enters P n (lookup file) v →
        BelowFile n (target_file (type_of P file v))
    below_target n file v h w k =
        subst (BelowFile n) (sym (target_is file v n k))
        (below_file 0 n k.0 (scoped_target P p q files fields n file v h w k))

  abbrev Same : RegTypes → RegTypes → Type 0
  Same g h = (q : ℕ) → q ≤ m + 2 → h q ≡ g q

  abbrev After : ℕ → Layout → ℕ → TFile → Way → List Ty → TSeq → Type 0
  After n L rd to w ts rest =
      (h : RegTypes) → Located m (after_way m L rd to w).homes (lookup to) h → Room m (used_by w L.used) h ts →
      (t : Ty) × (h (frame_reg m) ≡ Some t) → SeqAccepted Q n h rest

  -- an instruction computes a word, where g is known with the operands at hand, and it is put where it goes
  put_ok : (file : TFile) (L : Layout) (rd : ℕ) (u : Ty) (ts : List Ty) (to : TFile) (c : TSeq) (w : Way)
      (g g1 : RegTypes) (n : ℕ) (rest : TSeq) → Nearly m L rd → WayFits m L.used rd c w →
      Located m L.homes (lookup file) g → Same g g1 → FitsFile (lookup (ins rd u file)) to →
      ((r : ℕ) (t : Ty) → lookup to r ≡ Some t → lookup (ins rd u file) r ≡ Some t) → BelowFile n to →
      Room m L.used g (slots_by w (sp m (or_int (lookup (ins rd u file) rd))) ts) →
      BelowTypes n (slots_by w (sp m (or_int (lookup (ins rd u file) rd))) ts) → (t : Ty)
      × (g (frame_reg m) ≡ Some t) →
      After n L rd to w ts rest →
      SeqAccepted Q n (with_reg g1 (into m rd) (sp m u))
      (before (finish m L rd (slots_by w (sp m (or_int (lookup (ins rd u file) rd))) ts) to w) rest)
  put_ok file L rd u ts to c w g g1 n rest reg wf l s fits sub small room below fr go =
      let g2 : RegTypes = with_reg g1 (into m rd) (sp m u) in
      let far : (x : ℕ) → m < x → x ≤ m + 2 →
      g2 x ≡ g x = λ x a b. look_other g1 (into m rd) x (sp m u) (into_far m rd x a b) ∙ s x b in
      finish_ok m P Q labels tuples L rd u (sp m (or_int (lookup (ins rd u file) rd))) (lookup file)
      (lookup (ins rd u file)) ts to c w g2 n rest reg wf
      (defined m L rd u (lookup file) g1 reg.0 (old_same m L rd (lookup file) g g1 reg.0 s l))
      (lookup_ins rd u file) (given rd u file) fits sub small
      (room_same m L.used g g2 _ (far (slot_reg m) (omega arith) (omega arith)) room) below
      (fr.0, far (frame_reg m) (omega arith) (omega arith) ∙ fr.1) go

  -- what is known after a sequence's first instruction
  abbrev Left : TInstr → TFile → TFile → Type 0
  Left i file to = FitsFile (lookup (next P file i)) to
      × ((r : ℕ) (t : Ty) → lookup to r ≡ Some t → lookup (next P file i) r ≡ Some t)

  module _ (file : TFile) (L : Layout) (g : RegTypes) (n : ℕ) where
    abbrev Types : TInstr → TSeq → List Ty → List Ty
    Types i c ts = slots_by (way m L.used i c) (sp m (or_int (lookup (next P file i) (defines i)))) ts

    abbrev Step : TInstr → TSeq → Type 0
    Step i c = (h : RegTypes) (to : TFile) (ts : List Ty) (rest : TSeq) → Left i file to →
        BelowFile (names_after i n) to → Typed P n (lookup file) i h →
        Room m L.used g (Types i c ts) → BelowTypes n (Types i c ts) →
        After (names_after i n) L (defines i) to (way m L.used i c) ts rest →
        SeqAccepted Q n g (stepped m L (high_part m (target P file i)) i c (Types i c ts) to rest)

    -- what is stored is at home, where the tuple was loaded
    stored_ok : (rd rs : ℕ) (g1 : RegTypes) (t v : Ty) → Nearly m L rd → HomeHas m g (L.homes rd) t →
        g1 (at_home (first_reg m) (L.homes rd)) ≡ Some t → Same g g1 → HomeHas m g (L.homes rs) v →
        HomeHas m g1 (L.homes rs) v
    stored_ok rd rs g1 t v near tuple e1 s k = ⊎_elim
        (λ (e : rs ≡ rd). mine e near.1)
        (λ (ne : rs ≢ rd). home_same m (m + 2) g g1 (L.homes rs) v (omega arith)
        (sound_up m L.used rs (m + 2) (L.homes rs) (omega arith) (near.0 rs ne)) s k)
        (cases_eq rs rd)
      where
        mine : rs ≡ rd → Kept m L rd → HomeHas m g1 (L.homes rs) v
        mine e (inl so) = home_same m (m + 2) g g1 (L.homes rs) v (omega arith)
            (subst (λ r. UpTo (m + 2) (L.homes r)) (sym e)
            (sound_up m L.used rd (m + 2) (L.homes rd) (omega arith) so)) s k
        mine e (inr held) =
            let at : L.homes rs ≡ Held (into m rd) = ap L.homes e ∙ held in
            let a : g (into m rd) ≡ Some t = subst (λ x. HomeHas m g x t) held tuple in
            let b : g (into m rd) ≡ Some v = subst (λ x. HomeHas m g x v) at k in
            let c : g1 (into m rd) ≡ Some t = ap (λ x. g1 (at_home (first_reg m) x)) (sym held) ∙ e1 in
            subst (λ x. HomeHas m g1 x v) (sym at) (c ∙ sym a ∙ b)

    st_ok : (rd i rs : ℕ) (c : TSeq) → Nearly m L rd → Located m L.homes (lookup file) g →
        (t : Ty) × (g (frame_reg m) ≡ Some t) → Step (St rd i rs) c
    st_ok rd i rs c near l fr h to ts rest lf small a room below go =
        let same : filled_type (or_int (lookup file rd)) i ≡ TupleTy (filled a.0 i) =
        ap (λ o. filled_type (or_int o) i) a.4 in
        let mine : TupleTy (filled (sp_fields m a.0) i) ≡ sp m (filled_type (or_int (lookup file rd)) i) =
        ap TupleTy (sym (filled_sp m a.0 i)) ∙ ap (sp m) (sym same) in
        load_ok m P Q labels tuples n (first_reg m) g (L.homes rd) (sp m (TupleTy a.0)) _ (l rd (TupleTy a.0) a.4)
        (λ g1 e1 o1.
        let s1 : (x : ℕ) → x ≤ m + 2 → g1 x ≡ g x = λ x le. o1 x (λ z. absurd (omega arith)) in
        load_ok m P Q labels tuples n (second_reg m) g1 (L.homes rs) (sp m a.3) _
        (stored_ok rd rs g1 (sp m (TupleTy a.0)) (sp m a.3) near (l rd (TupleTy a.0) a.4) e1 s1 (l rs a.3 a.6))
        (λ g2 e2 o2. (
          with_reg g2 (into m rd) (sp m (filled_type (or_int (lookup file rd)) i)),
          (
            sp_fields m a.0,
            sp m a.1,
            a.2,
            sp m a.3,
            ap g2 (sym (stored_at m L rd near.1))
                ∙ o2 (at_home (first_reg m) (L.homes rd)) (stored_far m L rd (second_reg m) near.1 (omega arith)) ∙ e1,
            field_sp m a.0 i a.1 a.2 a.5,
            e2,
            fits_sp m a.3 a.1 a.7,
            ap (with_reg g2 (into m rd)) (sym mine),
          ),
          put_ok file L rd (filled_type (or_int (lookup file rd)) i) ts to c (way_of m L.used rd c) g g2 n rest near
              (way_fits m L.used rd c) l
              (λ x le. o2 x (λ z. absurd (omega arith)) ∙ s1 x le) lf.0 lf.1 small room below fr go,
        )))

  module _ (file : TFile) (L : Layout) (g : RegTypes) (n : ℕ) (reg : Regular m L)
      (l : Located m L.homes (lookup file) g) (fr : (t : Ty) × (g (frame_reg m) ≡ Some t)) where
    up_m : (r : ℕ) → UpTo m (L.homes r)
    up_m = regular_up m m L (omega arith) reg

    up_2 : (r : ℕ) → UpTo (m + 2) (L.homes r)
    up_2 = regular_up m (m + 2) L (omega arith) reg

    arith_ok : (op : _) (rd rs : ℕ) (v : TValue) (c : TSeq) → Step file L g n (Arith op rd rs v) c
    arith_ok op rd rs v c h to ts rest lf small a room below go =
        load_ok m P Q labels tuples n (first_reg m) g (L.homes rs) IntTy _ (l rs IntTy a.0) (λ g1 e1 o1.
        load_value_ok m P Q labels tuples file L.homes g1 v IntTy n _ a.1
        (located_same m (m + 2) L.homes (lookup file) g g1 (omega arith) up_2
        (λ x le. o1 x (λ z. absurd (omega arith))) l) (λ g2 k o2. (
          with_reg g2 (into m rd) IntTy,
          (
            o2 (at_home (first_reg m) (L.homes rs))
                (at_far (first_reg m) m (second_reg m) (L.homes rs) (up_m rs) (λ z. absurd (omega arith))
                (omega arith)) ∙ e1,
            value_sp m P Q labels tuples n file g2 (second_at m L.homes) v IntTy k a.1,
            refl,
          ),
          put_ok file L rd IntTy ts to c (way_of m L.used rd c) g g2 n rest (regular_nearly m L rd reg)
              (way_fits m L.used rd c) l
              (λ x le. o2 x (λ z. absurd (omega arith))
              ∙ o1 x (λ z. absurd (omega arith))) lf.0 lf.1 small room below fr go,
        )))

    ld_ok : (rd rs i : ℕ) (c : TSeq) → Step file L g n (Ld rd rs i) c
    ld_ok rd rs i c h to ts rest lf small a room below go =
        let same : a.1 ≡ field_type (or_int (lookup file rs)) i =
        sym (ap (λ o. field_type (or_int o) i) a.2 ∙ ap type_in a.3) in
        load_ok m P Q labels tuples n (first_reg m) g (L.homes rs) (sp m (TupleTy a.0)) _ (l rs (TupleTy a.0) a.2)
        (λ g1 e1 o1. (
          with_reg g1 (into m rd) (sp m (field_type (or_int (lookup file rs)) i)),
          (
            sp_fields m a.0,
            sp m (field_type (or_int (lookup file rs)) i),
            e1,
            field_sp m a.0 i (field_type (or_int (lookup file rs)) i) true (a.3 ∙ ap (λ y. Some (AField y true)) same),
            refl,
          ),
          put_ok file L rd (field_type (or_int (lookup file rs)) i) ts to c (way_of m L.used rd c) g g1 n rest
              (regular_nearly m L rd reg)
              (way_fits m L.used rd c) l
              (λ x le. o1 x (λ z. absurd (omega arith))) lf.0 lf.1 small room below fr go,
        ))

    malloc_ok : (rd : ℕ) (us : List Ty) (c : TSeq) → Step file L g n (Malloc rd us) c
    malloc_ok rd us c h to ts rest lf small a room below go = (
      with_reg g (into m rd) (sp m (TupleTy (empty_fields us))),
      (ap (λ y. with_reg g (into m rd) (TupleTy y)) (empty_sp m us), below_types m n us a.1),
      put_ok file L rd (TupleTy (empty_fields us)) ts to c (way_of m L.used rd c) g g n rest
          (regular_nearly m L rd reg) (way_fits m L.used rd c) l
          (λ x le. refl) lf.0 lf.1 small room below fr go,
    )

    mov_ok : (rd : ℕ) (v : TValue) (c : TSeq) → Step file L g n (Mov rd v) c
    mov_ok rd v c h to ts rest lf small a room below go =
        load_value_ok m P Q labels tuples file L.homes g v a.0 n _ a.1 l (λ g1 k o. (
          with_reg g1 (into m rd) (sp m (type_of P file v)),
          (
            sp m (type_of P file v),
            value_sp m P Q labels tuples n file g1 (second_at m L.homes) v (type_of P file v) k
                (subst (Has P n (lookup file) v) (sym (value_is P n file v a.0 a.1)) a.1),
            refl,
          ),
          put_ok file L rd (type_of P file v) ts to c (way_of m L.used rd c) g g1 n rest (regular_nearly m L rd reg)
              (way_fits m L.used rd c) l
              (λ x le. o x (λ z. absurd (omega arith))) lf.0 lf.1 small room below fr go,
        ))

    unpack_ok : (rd : ℕ) (v : TValue) (c : TSeq) → Step file L g n (Unpack rd v) c
    unpack_ok rd v c h to ts rest lf small a room below go =
        let same : a.0 ≡ hidden_type (type_of P file v) =
        sym (ap hidden_type (value_is P n file v (ExistsTy a.0) a.1)) in
        let x = shift_file 1 0 file in
        load_value_ok m P Q labels tuples file L.homes g v (ExistsTy a.0) n _ a.1 l (λ g1 k o.
        let l1 = located_same m (m + 2) L.homes (lookup file) g g1 (omega arith) up_2
        (λ y le. o y (λ z. absurd (omega arith))) l in
        let l2 = subst (λ f. Located m L.homes f (raised g1)) (raised_lookup file)
        (located_raised m L.homes (lookup file) g1 l1) in (
          with_reg (raised g1) (into m rd) (sp m (hidden_type (type_of P file v))),
          (
            sp m (hidden_type (type_of P file v)),
            value_sp m P Q labels tuples n file g1 (second_at m L.homes) v (ExistsTy (hidden_type (type_of P file v)))
                k (subst (λ y. Has P n (lookup file) v (ExistsTy y)) same a.1),
            refl,
          ),
          put_ok (shift_file 1 0 file) L rd (hidden_type (type_of P file v)) ts to c Gathers (raised g1)
              (raised g1) (n + 1) rest (regular_nearly m L rd reg) tt l2 (λ y le. refl) lf.0 lf.1 small
              (room_raised m L.used g g1 (o (slot_reg m) (λ z. absurd (omega arith))) room) tt
              (shift 1 0 fr.0, ap (option_map (shift 1 0)) (o (frame_reg m) (λ z. absurd (omega arith)) ∙ fr.1)) go,
        ))

    bnz_ok : (r : ℕ) (v : TValue) (c : TSeq) → BelowFile n (target_file (type_of P file v)) →
        (h : RegTypes) (ts : List Ty) (rest : TSeq) → Typed P n (lookup file) (Bnz r v) h → Room m L.used g ts →
        ((h : RegTypes) → Located m L.homes (lookup file) h → Room m L.used h ts → (t : Ty)
        × (h (frame_reg m) ≡ Some t) → SeqAccepted Q n h rest) →
        SeqAccepted Q n g (stepped m L (high_part m (target P file (Bnz r v))) (Bnz r v) c ts file rest)
    bnz_ok r v c tg h ts rest a room go =
        let dest = a.1.0 in
        subst
        (λ z. SeqAccepted Q n g (stepped m L (high_part m z) (Bnz r v) c ts file rest)) (sym (target_is file v n a.1))
        (build_ok m P Q labels tuples L.homes (lookup file) a.1.0 g n _ (regular_up m (m + 3) L (omega arith) reg) l
        a.1.2 (subst (BelowFile n) (target_is file v n a.1) tg) (λ g1 five o1.
        load_ok m P Q labels tuples n (first_reg m) g1 (L.homes r) IntTy _
        (located_same m (m + 2) L.homes (lookup file) g g1 (omega arith) up_2
        (λ x le. o1 x (λ z. absurd (omega arith)) (λ z. absurd (omega arith))) l r IntTy a.0) (λ g2 e2 o2.
        load_value_ok m P Q labels tuples file L.homes g2 v (CodeTy 0 a.1.0) n _ a.1.1
        (located_same m (m + 2) L.homes (lookup file) g g2 (omega arith) up_2 (λ x le. o2 x (λ z. absurd (omega arith))
        ∙ o1 x (λ z. absurd (omega arith)) (λ z. absurd (omega arith))) l) (λ g3 k o3.
        let t = TupleTy (frame (high_part m (sp_regs m a.1.0))) in
        let g4 : RegTypes = with_reg g3 (saved_reg m) fr.0 in
        let g5 : RegTypes = with_reg g4 (frame_reg m) (TupleTy (frame (high_part m (sp_regs m a.1.0)))) in
        let g6 : RegTypes = with_reg g5 (frame_reg m) fr.0 in
        let old : (x : ℕ) → x ≤ m + 2 → g3 x ≡ g x =
        λ x le. o3 x (λ z. absurd (omega arith)) ∙ o2 x (λ z. absurd (omega arith))
        ∙ o1 x (λ z. absurd (omega arith)) (λ z. absurd (omega arith)) in
        let far : (x : ℕ) → x ≢ frame_reg m → x ≢ saved_reg m →
        g5 x ≡ g3 x = λ x y z. look_other g4 (frame_reg m) x t y ∙ look_other g3 (saved_reg m) x fr.0 z in
        let three : g3 (frame_reg m) ≡ Some fr.0 = old (frame_reg m) (omega arith) ∙ fr.1 in
        let made : g4 (made_reg m) ≡ Some t = look_other g3 (saved_reg m) (made_reg m) fr.0 (λ z. absurd (omega arith))
        ∙ o3 (made_reg m) (λ z. absurd (omega arith)) ∙ o2 (made_reg m) (λ z. absurd (omega arith)) ∙ five in
        let test : g5 (at_home (first_reg m) (L.homes r)) ≡ Some IntTy =
        far (at_home (first_reg m) (L.homes r))
        (at_far (first_reg m) m (frame_reg m) (L.homes r) (up_m r) (λ z. absurd (omega arith)) (omega arith))
        (at_far (first_reg m) m (saved_reg m) (L.homes r) (up_m r) (λ z. absurd (omega arith)) (omega arith))
        ∙ o3 (at_home (first_reg m) (L.homes r))
        (at_far (first_reg m) m (second_reg m) (L.homes r) (up_m r) (λ z. absurd (omega arith)) (omega arith))
        ∙ e2 in
        let loaded = loaded_same m file g3 g5 L.homes v up_m
        (λ x y. far x (low_far x y (frame_reg m) (omega arith) (λ z. absurd (omega arith)))
        (low_far x y (saved_reg m) (omega arith) (λ z. absurd (omega arith)))) k in
        let low : (x : ℕ) (u : Ty) → x ≤ m → lookup file x ≡ Some u → g5 x ≡ Some (sp m u) =
        λ x u le e. far x (λ z. absurd (omega arith)) (λ z. absurd (omega arith)) ∙ old x (omega arith)
        ∙ low_known m L (lookup file) g reg l x u le e in
        let back : (x : ℕ) → x ≤ m + 2 → g6 x ≡ g x = λ x le. ⊎_elim
        (λ (e : x ≡ frame_reg m). ap g6 e ∙ look_same g5 (frame_reg m) fr.0 ∙ sym fr.1 ∙ ap g (sym e))
        (λ (ne : x ≢ frame_reg m). look_other g5 (frame_reg m) x fr.0 ne ∙ far x ne (λ z. absurd (omega arith))
        ∙ old x le)
        (cases_eq x (frame_reg m)) in (
          g4,
          (fr.0, three, refl),
          (
            g5,
            (t, made, refl),
            (
              g5,
              (
                test,
                (
                  sp_file m a.1.0,
                  value_sp m P Q labels tuples n file g5 (second_at m L.homes) v (CodeTy 0 a.1.0) loaded a.1.1,
                  fits_split m (lookup file) g5 a.1.0 low a.1.2 (look_same g4 (frame_reg m) t),
                ),
                refl,
              ),
              (
                g6,
                (
                  fr.0,
                  look_other g4 (frame_reg m) (saved_reg m) t (λ z. absurd (omega arith))
                      ∙ look_same g3 (saved_reg m) fr.0,
                  refl,
                ),
                go g6 (located_same m (m + 2) L.homes (lookup file) g g6 (omega arith) up_2 back l)
                    (room_same m L.used g g6 ts (back (slot_reg m) (omega arith)) room)
                    (fr.0, look_same g5 (frame_reg m) fr.0),
              ),
            ),
          ),
        )))))
      where
        low_far : (x : ℕ) → (x ≡ second_reg m) ⊎ (x ≤ m) → (y : ℕ) → m < y → y ≢ second_reg m → x ≢ y
        low_far x (inl e) y lt ne z = ne (sym z ∙ e)
        low_far x (inr le) y lt ne z = absurd (omega (arith, le, lt, z))

    jmp_ok : (v : TValue) → BelowFile n (target_file (type_of P file v)) → Enters P n (lookup file) v →
        SeqAccepted Q n g (code m P L file (Ends (Jmp v)))
    jmp_ok v tg a =
        subst
        (λ z. SeqAccepted Q n g (ended m L.homes (high_part m z) (Jmp v))) (sym (target_is file v n a))
        (build_ok m P Q labels tuples L.homes (lookup file) a.0 g n _ (regular_up m (m + 3) L (omega arith) reg) l a.2
        (subst (BelowFile n) (target_is file v n a) tg) (λ g1 five o1.
        load_value_ok m P Q labels tuples file L.homes g1 v (CodeTy 0 a.0) n _ a.1
        (located_same m (m + 2) L.homes (lookup file) g g1 (omega arith) up_2
        (λ x le. o1 x (λ z. absurd (omega arith)) (λ z. absurd (omega arith))) l) (λ g3 k o3.
        let t = TupleTy (frame (high_part m (sp_regs m a.0))) in
        let g5 : RegTypes = with_reg g3 (frame_reg m) (TupleTy (frame (high_part m (sp_regs m a.0)))) in
        let far : (x : ℕ) → x ≢ frame_reg m → g5 x ≡ g3 x = λ x y. look_other g3 (frame_reg m) x t y in
        let loaded = loaded_same m file g3 g5 L.homes v up_m (λ x y. far x (frame_far x y)) k in
        let low : (x : ℕ) (u : Ty) → x ≤ m → lookup file x ≡ Some u → g5 x ≡ Some (sp m u) =
        λ x u le e. far x (λ z. absurd (omega arith)) ∙ o3 x (λ z. absurd (omega arith))
        ∙ o1 x (λ z. absurd (omega arith)) (λ z. absurd (omega arith))
        ∙ low_known m L (lookup file) g reg l x u le e in (
          g5,
          (t, o3 (made_reg m) (λ z. absurd (omega arith)) ∙ five, refl),
          (
            sp_file m a.0,
            value_sp m P Q labels tuples n file g5 (second_at m L.homes) v (CodeTy 0 a.0) loaded a.1,
            fits_split m (lookup file) g5 a.0 low a.2 (look_same g3 (frame_reg m) t),
          ),
        ))))
      where
        frame_far : (x : ℕ) → (x ≡ second_reg m) ⊎ (x ≤ m) → x ≢ frame_reg m
        frame_far x (inl e) z = absurd (omega (arith, e, z))
        frame_far x (inr le) z = absurd (omega (arith, le, z))

  left : (i : TInstr) (file : TFile) (c : TSeq) → Ascends file → Left i file (kept P file i c)
  left i file c asc = (
    kept_fits P i (lookup (next P file i)) file c
        (fits_self (next P file i) (ascends_next P file i asc)),
    λ r t e. kept_sub P i file c r t e,
  )

  module _ (one : 1 ≤ m) (p q : ℕ) (files : LabelsScoped P) (fields : DataScoped P) where
    abbrev Rest : TInstr → TSeq → TFile → Type 0
    Rest i c to = (L2 : Layout) (n2 : ℕ) (g2 : RegTypes) → Ready m L2 c → ScopedRegs 0 n2 to → WellFormedSeq p q n2 c →
        SeqAccepted P n2 (lookup to) c →
        Located m L2.homes (lookup to) g2 → Room m L2.used g2 (slots m P L2.used to c) → (t : Ty)
        × (g2 (frame_reg m) ≡ Some t) → SeqAccepted Q n2 g2 (code m P L2 to c)

    -- an instruction in front of a rest
    on : (i : TInstr) (c : TSeq) (L : Layout) (file : TFile) (n : ℕ) (g : RegTypes) (reg : ReadyFor m L i)
        (h : ScopedRegs 0 n file) (w : WellFormedSeq p q n (Then i c)) (k : SeqAccepted P n (lookup file) (Then i c))
        (l : Located m L.homes (lookup file) g) (room : Room m L.used g (slots m P L.used file (Then i c)))
        (fr : (t : Ty) × (g (frame_reg m) ≡ Some t)) →
        Step file L g n i c → Rest i c (kept P file i c) → SeqAccepted Q n g (code m P L file (Then i c))
    on i c L file n g reg h w k l room fr st go =
        let to = kept P file i c in
        let acc = subst (λ z. SeqAccepted P (names_after i n) z c) (next_is P n file i k.0 k.1) k.2 in
        let after2 = scoped_kept P p q files fields i (names_after i n) file c
        (scoped_next P p q files fields i n file k.0 h w.0 k.1) in
        let same = used_is m L (defines i) (kept P file i c) (way m L.used i c) in
        subst (SeqAccepted Q n g) (sym (step_is m P L file i c _))
        (st k.0 (kept P file i c) (slots m P (used_by (way m L.used i c) L.used) (kept P file i c) c) _
        (left i file c (scoped_ascends n file h)) (below_file 0 (names_after i n) (kept P file i c) after2) k.1
        room
        (slots_below p q files fields (Then i c) file L.used n h w k)
        (λ g2 x r f. go (after m L i c (kept P file i c)) (names_after i n) g2 (way_ready m L i c (kept P file i c) reg)
        after2 w.2 (kept_accepted P i (names_after i n) file c acc) x
        (subst (λ u. Room m u g2 (slots m P u (kept P file i c) c)) (sym same) r) f))

    pub code_ok : (c : TSeq) (L : Layout) (file : TFile) (n : ℕ) (g : RegTypes) → Ready m L c → ScopedRegs 0 n file →
        WellFormedSeq p q n c → SeqAccepted P n (lookup file) c →
        Located m L.homes (lookup file) g → Room m L.used g (slots m P L.used file c) → (t : Ty)
        × (g (frame_reg m) ≡ Some t) → SeqAccepted Q n g (code m P L file c)
    code_ok (Then (Bnz r v) c) L file n g reg h w k l room fr =
        subst (SeqAccepted Q n g) (sym (step_is m P L file (Bnz r v) c _))
        (bnz_ok file L g n reg l fr r v c (below_target p q files fields n file v h w.0.1 k.1.1) k.0
        (slots m P L.used file c) _ k.1 room
        (λ g2 x y f. code_ok c L file n g2 (regular_ready m L c reg) h w.2 (subst
        (λ z. SeqAccepted P n z c) k.1.2 k.2) x y f))
    code_ok (Then (Arith op rd rs v) c) L file n g reg h w k l room fr =
        on (Arith op rd rs v) c L file n g reg h w k l room fr (arith_ok file L g n reg l fr op rd rs v c)
        (λ L2 n2 g2 a b d e x y f. code_ok c L2 _ n2 g2 a b d e x y f)
    code_ok (Then (Ld rd rs i) c) L file n g reg h w k l room fr =
        on (Ld rd rs i) c L file n g reg h w k l room fr (ld_ok file L g n reg l fr rd rs i c)
        (λ L2 n2 g2 a b d e x y f. code_ok c L2 _ n2 g2 a b d e x y f)
    code_ok (Then (Malloc rd us) c) L file n g reg h w k l room fr =
        on (Malloc rd us) c L file n g reg h w k l room fr (malloc_ok file L g n reg l fr rd us c)
        (λ L2 n2 g2 a b d e x y f. code_ok c L2 _ n2 g2 a b d e x y f)
    code_ok (Then (Mov rd v) c) L file n g reg h w k l room fr =
        on (Mov rd v) c L file n g reg h w k l room fr (mov_ok file L g n reg l fr rd v c)
        (λ L2 n2 g2 a b d e x y f. code_ok c L2 _ n2 g2 a b d e x y f)
    code_ok (Then (St rd i rs) c) L file n g reg h w k l room fr =
        on (St rd i rs) c L file n g reg h w k l room fr (st_ok file L g n rd i rs c reg l fr)
        (λ L2 n2 g2 a b d e x y f. code_ok c L2 _ n2 g2 a b d e x y f)
    code_ok (Then (Unpack rd v) c) L file n g reg h w k l room fr =
        on (Unpack rd v) c L file n g reg h w k l room fr (unpack_ok file L g n reg l fr rd v c)
        (λ L2 n2 g2 a b d e x y f. code_ok c L2 _ n2 g2 a b d e x y f)
    code_ok (Ends (Jmp v)) L file n g reg h w k l room fr =
        jmp_ok file L g n reg l fr v (below_target p q files fields n file v h w k) k
    code_ok (Ends Halt) L file n g reg h w k l room fr = low_known m L (lookup file) g reg l 1 IntTy one k

    blocks_ok : (bs : List TBlock) → WellFormedBlocks p q bs → BlocksAccepted P bs →
        BlocksAccepted Q (sp_blocks m P bs)
    blocks_ok [] w h = tt
    blocks_ok (b ∷ bs) w h =
        let s = scoped_regs 0 b.owes b.file w.0.1 in
        let g : RegTypes = lookup (sp_file m b.file) in
        let fr = split_frame m (sp_regs m b.file) in
        let l = entered_at m b.file (lookup b.file) (lookup (sp_file m b.file)) (λ r t e. e)
        (λ r t le e. split_low m (sp_regs m b.file) r le ∙ look_sp m b.file r t e) fr in (
          (
            below_split b.owes m (sp_regs m b.file) (below_regs m b.owes b.file h.0.0),
            code_ok b.code (layout m b.file) b.file b.owes g
                (regular_ready m (layout m b.file) b.code (gathered_regular m _)) s w.0.2 h.0.1 l tt
                (TupleTy (frame (high_part m (sp_regs m b.file))), fr),
          ),
          blocks_ok bs w.1 h.1,
        )

  -- data
  no_file : (v : TValue) (g : RegTypes) (at : ℕ → ℕ) → Loaded m NoRegs g at v
  no_file (Plain (Reg r) ts) g at = λ t e. cc
  no_file (Plain (Int i) ts) g at = tt
  no_file (Plain (Label l) ts) g at = tt
  no_file (Plain (Data d) ts) g at = tt
  no_file (Pack t v s) g at = no_file v g at

  none_known : lookup NoRegs ≡ no_types
  none_known = fun_ext (λ q. refl)

  data_ok : (xs : TData) → DataAccepted P xs → DataAccepted Q (sp_data m xs)
  data_ok [] h = tt
  data_ok (x ∷ xs) h =
      let v = value_sp m P Q labels tuples 0 NoRegs no_types (λ r. 1) x.value h.0.0 (no_file x.value no_types (λ r. 1))
      (subst (λ g. Has P 0 g x.value h.0.0) (sym none_known) h.0.1) in
      ((sp m h.0.0, v, fits_sp m h.0.0 x.ty h.0.2, below_sp m 0 x.ty h.0.3), data_ok xs h.1)

  pub heap_ok : (hs : List TData) → HeapAccepted P hs → HeapAccepted Q (map (sp_data m) hs)
  heap_ok [] h = tt
  heap_ok (x ∷ hs) h = (data_ok x h.0, heap_ok hs h.1)

-- each block of a program is found, spilled
pub at_map : {A B : Type 0} (f : A → B) (xs : List A) (l : ℕ) (x : A) → slice_get xs l ≡ Some x →
    slice_get (map f xs) l ≡ Some (f x)
at_map f [] l b e = cc
at_map f (x ∷ bs) zero b e = let s : x ≡ b = cc in ap (λ y. Some (f y)) s
at_map f (x ∷ bs) (suc l) b e = at_map f bs l b e

pub labels_of : (m : ℕ) (P : TProg) → Labels m P (spilled_above m P)
labels_of m P l b e = at_map (sp_block m P) P.blocks l b e

pub tuples_of : (m : ℕ) (P : TProg) → Tuples m P (spilled_above m P)
tuples_of m P d x e = at_map (sp_data m) P.heap d x e

entry_ok : (m : ℕ) (Q P : TProg) (bs : List TBlock) →
    ((b : TBlock) → slice_get bs 0 ≡ Some b → slice_get Q.blocks 1 ≡ Some (sp_block m P b)) →
    FirstTakesNothing bs → SeqAccepted Q 0 (lookup NoRegs) (entry m).code
entry_ok m Q P [] labels h = absurd h
entry_ok m Q P (b ∷ bs) labels h =
    let g : RegTypes = with_reg (lookup NoRegs) (frame_reg m) (TupleTy NoFields) in
    let none : sp_file m b.file ≡ MoreRegs (frame_reg m) (TupleTy NoFields) NoRegs = ap (sp_file m) h.1 in (
      g,
      (refl, tt),
      (
        MoreRegs (frame_reg m) (TupleTy NoFields) NoRegs,
        (sp_block m P b, labels b refl, ap₂ CodeTy (sym h.0) (sym none)),
        ((TupleTy NoFields, look_same (lookup NoRegs) (frame_reg m) (TupleTy NoFields), tt), tt),
      ),
    )

pub kept_types : (m : ℕ) (P : TProg) → 1 ≤ m → WellFormedProgram P → Accepted P → Accepted (spilled_above m P)
kept_types m P one w h = (
  (refl, refl),
  heap_ok m P (spilled_above m P) (labels_of m P) (tuples_of m P) P.heap h.1,
  (
    (tt, entry_ok m (spilled_above m P) P P.blocks (λ b e. labels_of m P 0 b e) h.0),
    blocks_ok m P (spilled_above m P) (labels_of m P) (tuples_of m P) one (length P.blocks) (length P.heap)
        (labels_scoped P w) (data_scoped P w) P.blocks w.1 h.2,
  ),
)

-- the files of blocks ascend
pub blocks_ascend : (P : TProg) → WellFormedProgram P → (l : ℕ) (b : TBlock) → slice_get P.blocks l ≡ Some b →
    Ascends b.file
blocks_ascend P w l b e = scoped_ascends b.owes b.file (labels_scoped P w l b e)
