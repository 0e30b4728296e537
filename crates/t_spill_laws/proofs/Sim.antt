-- Each step of an accepted program, and what its spilled program's erased machine makes of it.
use Rattle.std.proofs.Common.{◌≡◌, ℕ, suc, ◌+◌, ◌<◌, ◌≤◌, true, false, List, [], ◌∷◌, ◌++◌, length, map}
use Rattle.std.proofs.Common.{Some, refl, sym, ap, ap₂, ◌∙◌, subst, arith, slice_get, slice_set, inl, inr, ⊎_elim}
use Rattle.std.specs.Prelude.{◌≢◌, option_map, replicate, ℤ}
use Rattle.std.proofs.lemmas.Bool.{cases_eq}
use Rattle.std.proofs.lemmas.Option.{slice_get_within}
use Rattle.idx_core.specs.Arith.{compute, is_zero}
use Rattle.idx_core.specs.Over.{putted}
use Rattle.idx_core.specs.Laws.{put_shift_law}
use Rattle.t_types.specs.Tree.{Ty, IntTy, VarTy, CodeTy, ExistsTy, TupleTy, TFile, TFields, over, put, put_file}
use Rattle.t_types.specs.Tree.{shift_file}
use Rattle.t_types.specs.TreeLaws.{types_part, file_over}
use Rattle.t_types.specs.Fields.{AField, filled, empty_fields}
use Rattle.t_types.specs.Fits.{FieldsFit, FitsFile, RegTypes, lookup}
use Rattle.t_types.proofs.FitsLaws.{fields_fit_same, both_filled, field_fits}
use Rattle.t_terms.specs.Tree.{Reg, TValue, TInstr, Arith, Bnz, Ld, Malloc, Mov}
use Rattle.t_terms.specs.Tree.{St, Unpack, Jmp, Halt, TSeq, Then, Ends, TBlock, TProg, put_seq}
use Rattle.t_terms.specs.Registers.{with_reg}
use Rattle.t_rules.specs.Rules.{Has, Enters, Typed, SeqAccepted, BlockAccepted}
use Rattle.t_rules.specs.Machine.{Word, IntWord, AddressWord, EmptyWord, Heap, RegWords, State, At}
use Rattle.t_rules.specs.Machine.{Means, Next, Into, Step}
use Rattle.t_rules.specs.HeapTypes.{HeapTypes, WordHas, HeapHas, RegsHave, Rises, filled_at, start_types}
use Rattle.t_rules.specs.LawsSound.{code_of}
use Rattle.t_rules.specs.Erase.{EWord, EInt, EAddress, ELabel, EEmpty, ESeq, EThen, EJmp, EArith, EBnz, ELd}
use Rattle.t_rules.specs.Erase.{EMalloc, EMov, ESt, EHeap, ERegs, EState, EAt, erase_value, erase_seq}
use Rattle.t_rules.specs.Erase.{base_word}
use Rattle.t_rules.proofs.Puts.{ClosedLabels, ClosedData, seq_put}
use Rattle.t_rules.proofs.Words.{word_fits, tuples_rise, regs_rise, tuple_at, tuples_filled, tuples_pushed, pushed_at}
use Rattle.t_rules.proofs.Words.{empty_tuple, word_of_field, field_written, regs_with, regs_retyped, regs_fit, is_int}
use Rattle.t_rules.proofs.Words.{is_address, is_pack, value_has, rises_filled, at_filled, rises_pushed, rises_next}
use Rattle.t_spill_rules.specs.Spill.{frame_reg, first_reg, second_reg, made_reg, saved_reg, high_part, sp_base, ins}
use Rattle.t_spill_rules.specs.Spill.{type_of, hidden_type, target_file, next, target, end_target, live, keep, kept}
use Rattle.t_spill_rules.specs.Spill.{Held, Layout, gathered, layout, at_home, second_at, defines, into}
use Rattle.t_spill_rules.specs.Spill.{Gathers, way_of, way, after, used_by, code, sizes}
use Rattle.t_spill_laws.proofs.Files.{look_same, look_other, Ascends, ascends_ins, lookup_ins, fits_self}
use Rattle.t_spill_laws.proofs.Files.{fits_high}
use Rattle.t_spill_laws.proofs.Computed.{value_is, next_is, ascends_next}
use Rattle.t_spill_laws.proofs.Live.{keep_over, ascends_keep, fits_keep, kept_fits, kept_accepted, kept_ascends}
use Rattle.t_spill_laws.proofs.Homes.{regular_up, sound_up, UpTo, sound_held, at_far, way_fits, stored_at, used_is}
use Rattle.t_spill_laws.proofs.Homes.{Regular, Nearly, Kept, ReadyFor, Ready, stored_far, regular_ready, way_ready}
use Rattle.t_spill_laws.proofs.Homes.{gathered_regular}
use Rattle.t_spill_laws.proofs.Erased.{highs, highs_over, ebuild, eload, ebase, efinish, ecode, eend, erase_then}
use Rattle.t_spill_laws.proofs.Erased.{erase_end_code, erased_put, ins_over, known, esize, sizes_put}
use Rattle.t_spill_laws.proofs.Erased.{slots_left, count_by}
use Rattle.t_spill_laws.proofs.Walks.{walks_on, walks_none, walks_step, Moves, moves_step, moves_walk, walk_moves}
use Rattle.t_spill_laws.proofs.Walks.{moves_walks, Full, ld_step, mov_step, st_step, arith_step, enter_step, stay_step}
use Rattle.t_spill_laws.proofs.Walks.{leave_step, get_end, HomeAt, home_regs, home_heap, BaseAt, base_regs, base_heap}
use Rattle.t_spill_laws.proofs.Walks.{loads, fetches, Sources, builds}
use Rattle.t_spill_laws.proofs.Heaps.{image, image_address, full_image, images_at, images_empty, images_length}
use Rattle.t_spill_laws.proofs.Heaps.{heaps_frame, heaps_tuple, heaps_set, place_below, FrameHas}
use Rattle.t_spill_laws.proofs.Frames.{fits_at, WordAt, Alike, alike_regs, alike_frame, alike_tuple}
use Rattle.t_spill_laws.proofs.Frames.{Mid, mid_written, mid_of, mid_here, framed, frame_words, Finished, finish_at}
use Rattle.t_spill_laws.proofs.Matching.{ELabels, Still, BlocksAscend, Matches, Follows, tail_sizes, tail_left}
use Rattle.t_spill_laws.proofs.Arriving.{value_in, base_kept, far_from, arrives}
use Rattle.idx_core.proofs.Lists.{get_front}
use Rattle.idx_core.proofs.Bools.{either}

module _ (m : ℕ) (some : 1 ≤ m) (P : TProg) (closed : ClosedLabels P) (tuples : ClosedData P)
    (blocks : (l : ℕ) (b : TBlock) → slice_get P.blocks l ≡ Some b →
    BlockAccepted P b) (B : List ESeq) (labels : ELabels m P B) (ascend : BlocksAscend P) where
  module _ (q : HeapTypes) (p : List ℕ) (x : TFile) (L : Layout) (n : ℕ) (h : Heap) (r : RegWords) (K : EHeap)
      (ρ : ERegs) (heap : HeapHas P q h) (regs : RegsHave P q (lookup x) r) (asc : Ascends x)
      (begun : Rises (start_types P) q) (still : Still P p) (sim : Alike m p x L n h r K ρ) where
    -- a register's word, at home
    reg_word : (s : ℕ) (t : Ty) → lookup x s ≡ Some t → (w : Word) × (e : EWord) × (r s ≡ Some w) × WordHas P q w t
        × (image p w ≡ Some e) × Full e × HomeAt m K ρ (L.homes s) e
    reg_word s t k =
        let a = regs s t k in
        let y = sim.has s t k in
        let e1 = a.1 in
        let z : Some a.0 ≡ Some y.word = sym e1 ∙ y.known in
        let same : a.0 ≡ y.word = cc in
        (a.0, y.eword, a.1, a.2, ap (image p) same ∙ y.stands, y.full, y.home)

    reg_int : (s : ℕ) → lookup x s ≡ Some IntTy → (i : ℤ) × (r s ≡ Some (IntWord i))
        × HomeAt m K ρ (L.homes s) (EInt i)
    reg_int s k =
        let a = reg_word s IntTy k in
        let i = is_int P q a.0 a.3 in
        let im : Some (EInt i.0) ≡ Some a.1 = sym (ap (image p) i.1) ∙ a.4 in
        let same : a.1 ≡ EInt i.0 = cc in
        (i.0, a.2 ∙ ap Some i.1, subst (HomeAt m K ρ (L.homes s)) same a.6)

    reg_tuple : (s : ℕ) (fs : TFields) → lookup x s ≡ Some (TupleTy fs) → (a : ℕ) × (now : TFields) × (y : ℕ)
        × (r s ≡ Some (AddressWord a)) × (slice_get q a ≡ Some now) × FieldsFit now fs × (slice_get p a ≡ Some y)
        × HomeAt m K ρ (L.homes s) (EAddress y)
    reg_tuple s fs k =
        let a = reg_word s (TupleTy fs) k in
        let d = is_address P q a.0 fs a.3 in
        let y = image_address p d.0 a.1 (sym (ap (image p) d.2) ∙ a.4) in
        (d.0, d.1, y.0, a.2 ∙ ap Some d.2, d.3, d.4, y.1, subst (HomeAt m K ρ (L.homes s)) y.2 a.6)

    value_int : (v : TValue) → Has P 0 (lookup x) v IntTy → (i : ℤ) × Means r v (IntWord i)
        × BaseAt m K ρ L.homes (erase_value v) (EInt i)
    value_int v k =
        let y = value_has P q (lookup x) r begun regs v IntTy k in
        let i = is_int P q y.0 y.2 in
        let a : Means r v (IntWord i.0) = subst (Means r v) i.1 y.1 in
        let z = value_in m some P closed tuples blocks B labels ascend p r K ρ L.homes x still sim.has v IntTy
        (IntWord i.0) k a in
        let e2 = z.2 in
        let e : z.0 ≡ EInt i.0 = cc in
        (i.0, a, subst (BaseAt m K ρ L.homes (erase_value v)) e z.1)

    up_m : Regular m L → (s : ℕ) → UpTo m (L.homes s)
    up_m reg s = regular_up m m L (omega arith) reg s

    up_2 : Regular m L → (s : ℕ) → UpTo (m + 2) (L.homes s)
    up_2 reg s = regular_up m (m + 2) L (omega arith) reg s

    up_3 : Regular m L → (s : ℕ) → UpTo (m + 3) (L.homes s)
    up_3 reg s = regular_up m (m + 3) L (omega arith) reg s

    -- what is stored is at home, where the tuple was loaded
    stored_home : (σ : ERegs) (rd rs : ℕ) (e w : EWord) → Nearly m L rd → HomeAt m K ρ (L.homes rd) e →
        σ (at_home (first_reg m) (L.homes rd)) ≡ Some e → ((y : ℕ) → y ≤ m + 2 → σ y ≡ ρ y) →
        HomeAt m K ρ (L.homes rs) w → HomeAt m K σ (L.homes rs) w
    stored_home σ rd rs e w near tuple e1 s k = ⊎_elim
        (λ (z : rs ≡ rd). mine z near.1)
        (λ (ne : rs ≢ rd). home_regs m K ρ σ (m + 2) (L.homes rs) w (omega arith)
        (sound_up m L.used rs (m + 2) (L.homes rs) (omega arith) (near.0 rs ne)) s k)
        (cases_eq rs rd)
      where
        mine : rs ≡ rd → Kept m L rd → HomeAt m K σ (L.homes rs) w
        mine z (inl so) = home_regs m K ρ σ (m + 2) (L.homes rs) w (omega arith)
            (subst (λ y. UpTo (m + 2) (L.homes y)) (sym z)
            (sound_up m L.used rd (m + 2) (L.homes rd) (omega arith) so)) s k
        mine z (inr held) =
            let at : L.homes rs ≡ Held (into m rd) = ap L.homes z ∙ held in
            let a : ρ (into m rd) ≡ Some e = subst (λ y. HomeAt m K ρ y e) held tuple in
            let b : ρ (into m rd) ≡ Some w = subst (λ y. HomeAt m K ρ y w) at k in
            let d : σ (into m rd) ≡ Some e = ap (λ y. σ (at_home (first_reg m) y)) (sym held) ∙ e1 in
            subst (λ y. HomeAt m K σ y w) (sym at) (d ∙ sym a ∙ b)

    abbrev Goal : TInstr → TSeq → Type 0
    Goal i c = Follows m P B (sizes m P (after m L i c (kept P x i c)) (kept P x i c) c)
        (suc (esize (erase_seq (code m P (after m L i c (kept P x i c)) (kept P x i c) c)))) (At h r (Then i c))
        (EAt K ρ (ecode m L (slots_left m L.used (Then i c)) (highs m (kept P x i c)) (highs m (target P x i)) i c
        (erase_seq (code m P (after m L i c (kept P x i c)) (kept P x i c) c))))

    -- what is known after an instruction, and then what stays known
    fits_next : (i : TInstr) (c : TSeq) → FitsFile (lookup (next P x i)) (kept P x i c)
    fits_next i c = kept_fits P i (lookup (next P x i)) x c (fits_self (next P x i) (ascends_next P x i asc))

    fits_with : (rd : ℕ) (u : Ty) (i : TInstr) (c : TSeq) → next P x i ≡ ins rd u x →
        FitsFile (with_reg (lookup x) rd u) (kept P x i c)
    fits_with rd u i c e =
        subst (λ (g : RegTypes). FitsFile g (kept P x i c)) (ap lookup e ∙ lookup_ins rd u x) (fits_next i c)

    kept_regs : (q2 : HeapTypes) (i : TInstr) (c : TSeq) (g : RegTypes) (r2 : RegWords) → Typed P 0 (lookup x) i g →
        RegsHave P q2 g r2 → RegsHave P q2 (lookup (kept P x i c)) r2
    kept_regs q2 i c g r2 k hr =
        regs_fit P q2 (lookup (next P x i)) (kept P x i c) r2
        (subst (λ f. RegsHave P q2 f r2) (next_is P 0 x i g k) hr) (fits_next i c)

    rest_acc : (i : TInstr) (c : TSeq) (g : RegTypes) (d : ℕ) → Typed P 0 (lookup x) i g → SeqAccepted P d g c →
        SeqAccepted P d (lookup (kept P x i c)) c
    rest_acc i c g d k a = kept_accepted P i d x c (subst (λ f. SeqAccepted P d f c) (next_is P 0 x i g k) a)

    -- an instruction whose rest is the same
    after_it : (i : TInstr) (c : TSeq) (k : SeqAccepted P 0 (lookup x) (Then i c)) (q1 : HeapTypes) (p1 : List ℕ)
        (h1 : Heap) (r2 : RegWords) (f : EState) → Step P (At h r (Then i c)) Next (At h1 r2 c) →
        Moves B (EAt K ρ (ecode m L (slots_left m L.used (Then i c)) (highs m (kept P x i c)) (highs m (target P x i))
        i c (erase_seq (code m P (after m L i c (kept P x i c)) (kept P x i c) c)))) f →
        Finished m B f p1 (kept P x i c) (after m L i c (kept P x i c))
        (slots_left m (used_by (way m L.used i c) L.used) c) h1 r2
        (erase_seq (code m P (after m L i c (kept P x i c)) (kept P x i c) c)) →
        HeapHas P q1 h1 → RegsHave P q1 k.0 r2 → SeqAccepted P 0 k.0 c → Rises (start_types P) q1 → Still P p1 →
        ReadyFor m L i → Goal i c
    after_it i c k q1 p1 h1 r2 f st mv N hh hr acc up sl ready =
        let to = kept P x i c in
        let L2 = after m L i c (kept P x i c) in
        let same = used_is m L (defines i) (kept P x i c) (way m L.used i c) in
        inr (
          Next,
          At h1 r2 c,
          EAt N.heap N.regs (erase_seq (code m P (after m L i c (kept P x i c)) (kept P x i c) c)),
          st,
          (moves_walk B _ _ _ mv N.walks, refl),
          record {
            types = q1;
            places = p1;
            file = kept P x i c;
            lay = after m L i c (kept P x i c);
            eheap = N.heap;
            eregs = N.regs;
            heap = hh;
            regs = kept_regs q1 i c k.0 r2 k.1 hr;
            acc = rest_acc i c k.0 0 k.1 acc;
            asc = kept_ascends P i x c asc;
            up = up;
            still = sl;
            alike = subst (λ u. Alike m p1 (kept P x i c) (after m L i c (kept P x i c)) (slots_left m u c) h1 r2 N.heap
                N.regs) (sym same) N.alike;
            ready = way_ready m L i c (kept P x i c) ready;
            is = refl;
          },
          refl,
        )

    arith_case : (op : _) (rd rs : ℕ) (v : TValue) (c : TSeq) → Regular m L →
        n ≡ slots_left m L.used (Then (Arith op rd rs v) c) →
        SeqAccepted P 0 (lookup x) (Then (Arith op rd rs v) c) → Goal (Arith op rd rs v) c
    arith_case op rd rs v c reg en k =
        let a = k.1 in
        let i = Arith op rd rs v in
        let xi = reg_int rs a.0 in
        let yi = value_int v a.1 in
        let z : ℤ = compute op xi.0 yi.0 in
        let b = erase_value v in
        let to = kept P x (Arith op rd rs v) c in
        let rest = erase_seq
        (code m P (after m L (Arith op rd rs v) c (kept P x (Arith op rd rs v) c)) (kept P x (Arith op rd rs v) c)
        c) in
        let left = slots_left m (used_by (way_of m L.used rd c) L.used) c in
        let tail1 = efinish m L rd (count_by (way_of m L.used rd c) left) (highs m to) (way_of m L.used rd c) rest in
        let tail2 = EThen (EArith op (into m rd) (at_home (first_reg m) (L.homes rs))
        (sp_base (second_at m L.homes) b)) tail1 in
        let l = loads B m K ρ (first_reg m) (L.homes rs) (ebase m L.homes b tail2) (EInt xi.0) xi.2 tt in
        let s1 : (y : ℕ) → y ≤ m + 2 → l.regs y ≡ ρ y = λ y le. l.others y (λ w. absurd (omega arith)) in
        let F = fetches B m K l.regs L.homes b tail2 (EInt yi.0)
        (base_regs m K ρ l.regs L.homes b (EInt yi.0) (up_2 reg) s1 yi.2) in
        let s2 : (y : ℕ) → y ≤ m + 2 → F.regs y ≡ ρ y = λ y le. F.others y (λ w. absurd (omega arith)) ∙ s1 y le in
        let here : F.regs (at_home (first_reg m) (L.homes rs)) ≡ Some (EInt xi.0) =
        F.others (at_home (first_reg m) (L.homes rs))
        (at_far (first_reg m) m (second_reg m) (L.homes rs) (up_m reg rs) (λ w. absurd (omega arith)) (omega arith))
        ∙ l.here in
        let s3 = arith_step B K F.regs op (into m rd) (at_home (first_reg m) (L.homes rs))
        (sp_base (second_at m L.homes) b) tail1 xi.0 yi.0 here F.here in
        let r2 : RegWords = with_reg r rd (IntWord z) in
        let mid = mid_of m p x L n h r r2 K F.regs rd (IntWord z) (EInt z) (λ s ne. reg s)
        (alike_regs m p x L n h r K ρ F.regs reg s2 sim)
        refl tt (look_same r rd (IntWord z)) (λ s ne. look_other r rd s (IntWord z) ne) in
        let N = finish_at m B p x to L c (way_of m L.used rd c) left (highs m to) h r2 K
        (with_reg F.regs (into m rd) (EInt z)) rd IntTy rest (way_fits m L.used rd c) (inl (reg rd))
        (subst (λ u. Mid m p x L u h r2 K (with_reg F.regs (into m rd) (EInt z)) rd) en mid)
        (fits_with rd IntTy i c refl) refl in
        after_it i c k q p h r2 (EAt K (with_reg F.regs (into m rd) (EInt z)) tail1) (
          xi.0,
          yi.0,
          xi.1,
          yi.1,
          refl,
          refl,
        )
        (walk_moves B _ _ _ l.walks (walk_moves B _ _ _ F.walks (moves_step B _ _ s3))) N heap
        (subst (λ g. RegsHave P q g r2) (sym a.2) (regs_with P q (lookup x) r rd IntTy (IntWord z) regs refl)) k.2
        begun still reg

    ld_case : (rd rs i : ℕ) (c : TSeq) → Regular m L → n ≡ slots_left m L.used (Then (Ld rd rs i) c) →
        SeqAccepted P 0 (lookup x) (Then (Ld rd rs i) c) → Goal (Ld rd rs i) c
    ld_case rd rs i c reg en k =
        let a = k.1 in
        let d = reg_tuple rs a.0 a.2 in
        let tuple = tuple_at P q q h d.0 d.1 heap d.4 in
        let fl = field_fits d.1 a.0 i a.1 true d.5 a.3 in
        let full : fl.0 ≡ true = fl.2 refl in
        let w = word_of_field P q tuple.0 d.1 i a.1 true tuple.2 (fl.1 ∙ ap (λ b. Some (AField a.1 b)) full) in
        let y = sim.heaps.same d.0 tuple.0 tuple.1 in
        let e1 = y.2 in let e2 = d.6 in
        let z : Some y.0 ≡ Some d.2 = sym e1 ∙ e2 in
        let same : y.0 ≡ d.2 = cc in
        let e = images_at p tuple.0 y.1 i w.0 y.4 w.1 in
        let fe = full_image P q p w.0 a.1 e.0 w.2 e.2 in
        let to = kept P x (Ld rd rs i) c in
        let rest = erase_seq
        (code m P (after m L (Ld rd rs i) c (kept P x (Ld rd rs i) c)) (kept P x (Ld rd rs i) c) c) in
        let left = slots_left m (used_by (way_of m L.used rd c) L.used) c in
        let tail1 = efinish m L rd (count_by (way_of m L.used rd c) left) (highs m to) (way_of m L.used rd c) rest in
        let l = loads B m K ρ (first_reg m) (L.homes rs)
        (EThen (ELd (into m rd) (at_home (first_reg m) (L.homes rs)) i) tail1) (EAddress d.2) d.7 tt in
        let s1 : (s : ℕ) → s ≤ m + 2 → l.regs s ≡ ρ s = λ s le. l.others s (λ u. absurd (omega arith)) in
        let s2 = ld_step B K l.regs (into m rd) (at_home (first_reg m) (L.homes rs)) i tail1 d.2 y.1 e.0 l.here
        (ap (slice_get K) (sym same) ∙ y.3) e.1 fe in
        let r2 : RegWords = with_reg r rd w.0 in
        let mid = mid_of m p x L n h r r2 K l.regs rd w.0 e.0 (λ s ne. reg s)
        (alike_regs m p x L n h r K ρ l.regs reg s1 sim) e.2 fe
        (look_same r rd w.0) (λ s ne. look_other r rd s w.0 ne) in
        let N = finish_at m B p x to L c (way_of m L.used rd c) left (highs m to) h r2 K (with_reg l.regs
        (into m rd) e.0)
        rd _ rest (way_fits m L.used rd c) (inl (reg rd))
        (subst (λ v. Mid m p x L v h r2 K (with_reg l.regs (into m rd) e.0) rd) en mid)
        (fits_with rd _ (Ld rd rs i) c refl) refl in
        after_it (Ld rd rs i) c k q p h r2 (EAt K (with_reg l.regs (into m rd) e.0) tail1)
        (d.0, tuple.0, w.0, d.3, tuple.1, w.1, (λ t ee. subst (λ v. WordHas P q v a.1) ee w.2), refl, refl)
        (walk_moves B _ _ _ l.walks (moves_step B _ _ s2)) N heap
        (subst (λ g. RegsHave P q g r2) (sym a.4) (regs_with P q (lookup x) r rd a.1 w.0 regs w.2)) k.2 begun still reg

    mov_case : (rd : ℕ) (v : TValue) (c : TSeq) → Regular m L → n ≡ slots_left m L.used (Then (Mov rd v) c) →
        SeqAccepted P 0 (lookup x) (Then (Mov rd v) c) → Goal (Mov rd v) c
    mov_case rd v c reg en k =
        let a = k.1 in
        let y = value_has P q (lookup x) r begun regs v a.0 a.1 in
        let e = value_in m some P closed tuples blocks B labels ascend p r K ρ L.homes x still sim.has v a.0 y.0 a.1
        y.1 in
        let b = erase_value v in
        let to = kept P x (Mov rd v) c in
        let rest = erase_seq (code m P (after m L (Mov rd v) c (kept P x (Mov rd v) c)) (kept P x (Mov rd v) c) c) in
        let left = slots_left m (used_by (way_of m L.used rd c) L.used) c in
        let tail1 = efinish m L rd (count_by (way_of m L.used rd c) left) (highs m to) (way_of m L.used rd c) rest in
        let tail2 = EThen (EMov (into m rd) (sp_base (second_at m L.homes) b)) tail1 in
        let F = fetches B m K ρ L.homes b tail2 e.0 e.1 in
        let s1 : (s : ℕ) → s ≤ m + 2 → F.regs s ≡ ρ s = λ s le. F.others s (λ u. absurd (omega arith)) in
        let s2 = mov_step B K F.regs (into m rd) (sp_base (second_at m L.homes) b) tail1 e.0 F.here in
        let r2 : RegWords = with_reg r rd y.0 in
        let mid = mid_of m p x L n h r r2 K F.regs rd y.0 e.0 (λ s ne. reg s)
        (alike_regs m p x L n h r K ρ F.regs reg s1 sim) e.2
        (full_image P q p y.0 a.0 e.0 y.2 e.2) (look_same r rd y.0) (λ s ne. look_other r rd s y.0 ne) in
        let N = finish_at m B p x to L c (way_of m L.used rd c) left (highs m to) h r2 K (with_reg F.regs
        (into m rd) e.0)
        rd (type_of P x v) rest (way_fits m L.used rd c) (inl (reg rd))
        (subst (λ u. Mid m p x L u h r2 K (with_reg F.regs (into m rd) e.0) rd) en mid)
        (fits_with rd (type_of P x v) (Mov rd v) c refl) refl in
        after_it (Mov rd v) c k q p h r2 (EAt K (with_reg F.regs (into m rd) e.0) tail1) (y.0, y.1, refl, refl)
        (walk_moves B _ _ _ F.walks (moves_step B _ _ s2)) N heap
        (subst (λ g. RegsHave P q g r2) (sym a.2) (regs_with P q (lookup x) r rd a.0 y.0 regs y.2)) k.2 begun still reg

    malloc_case : (rd : ℕ) (ts : List Ty) (c : TSeq) → Regular m L → n ≡ slots_left m L.used (Then (Malloc rd ts) c) →
        SeqAccepted P 0 (lookup x) (Then (Malloc rd ts) c) → Goal (Malloc rd ts) c
    malloc_case rd ts c reg en k =
        let to = kept P x (Malloc rd ts) c in
        let rest = erase_seq
        (code m P (after m L (Malloc rd ts) c (kept P x (Malloc rd ts) c)) (kept P x (Malloc rd ts) c) c) in
        let left = slots_left m (used_by (way_of m L.used rd c) L.used) c in
        let tail1 = efinish m L rd (count_by (way_of m L.used rd c) left) (highs m to) (way_of m L.used rd c) rest in
        let es : List EWord = replicate (length ts) EEmpty in
        let us : List Word = map EmptyWord ts in
        let p1 : List ℕ = p ++ (length K ∷ []) in
        let K1 : EHeap = K ++ (replicate (length ts) EEmpty ∷ []) in
        let h1 : Heap = h ++ (map EmptyWord ts ∷ []) in
        let e = EAddress (length K) in
        let w : Word = AddressWord (length h) in
        let there : slice_get (p ++ (length K ∷ [])) (length h) ≡ Some (length K) =
        ap (slice_get (p ++ (length K ∷ []))) (sym sim.heaps.size) ∙ get_end p (length K) [] in
        let im : image (p ++ (length K ∷ [])) (AddressWord (length h)) ≡ Some (EAddress (length K)) =
        ap (option_map EAddress) there in
        let r2 : RegWords = with_reg r rd (AddressWord (length h)) in
        let s1 = moves_step B (EAt K ρ (EThen (EMalloc (into m rd) (length ts)) tail1))
        (EAt (K ++ (replicate (length ts) EEmpty ∷ [])) (with_reg ρ (into m rd) (EAddress (length K))) tail1)
        refl in
        let sim1 = alike_tuple m p x L n h r K ρ us es
        (heaps_tuple p h K us es sim.heaps (images_empty (p ++ (length K ∷ [])) ts)) sim in
        let mid = mid_of m p1 x L n h1 r r2 K1 ρ rd w e (λ s ne. reg s) sim1 im tt (look_same r rd w)
        (λ s ne. look_other r rd s w ne) in
        let N = finish_at m B p1 x to L c (way_of m L.used rd c) left (highs m to) h1 r2 K1 (with_reg ρ
        (into m rd) e) rd
        (TupleTy (empty_fields ts)) rest (way_fits m L.used rd c) (inl (reg rd))
        (subst (λ u. Mid m p1 x L u h1 r2 K1 (with_reg ρ (into m rd) e) rd) en mid)
        (fits_with rd (TupleTy (empty_fields ts)) (Malloc rd ts) c refl) refl in
        let q1 : HeapTypes = q ++ (empty_fields ts ∷ []) in
        let up = rises_pushed q (empty_fields ts) in
        after_it (Malloc rd ts) c k q1 p1 h1 r2 (EAt K1 (with_reg ρ (into m rd) e) tail1) (refl, refl) s1 N
        (tuples_pushed P (q ++ (empty_fields ts ∷ [])) q h (empty_fields ts) (map EmptyWord ts)
        (tuples_rise P q (q ++ (empty_fields ts ∷ [])) up q h heap)
        (empty_tuple P (q ++ (empty_fields ts ∷ [])) ts k.1.1))
        (subst (λ g. RegsHave P q1 g r2) (sym k.1.0)
        (regs_with P (q ++ (empty_fields ts ∷ [])) (lookup x) r rd (TupleTy (empty_fields ts)) (AddressWord (length h))
        (regs_rise P q (q ++ (empty_fields ts ∷ [])) up (lookup x) r regs) (
          empty_fields ts,
          empty_fields ts,
          pushed_at P q q h (empty_fields ts) heap,
          refl,
          fields_fit_same (empty_fields ts),
        )))
        k.2 (rises_next (start_types P) q q1 begun up) (λ d y e2. get_front p (length K ∷ []) d d (still d y e2)) reg

    st_case : (rd i rs : ℕ) (c : TSeq) → Nearly m L rd → n ≡ slots_left m L.used (Then (St rd i rs) c) →
        SeqAccepted P 0 (lookup x) (Then (St rd i rs) c) → Goal (St rd i rs) c
    st_case rd i rs c near en k =
        let a = k.1 in
        let d = reg_tuple rd a.0 a.4 in
        let v = reg_word rs a.3 a.6 in
        let tuple = tuple_at P q q h d.0 d.1 heap d.4 in
        let fl = field_fits d.1 a.0 i a.1 a.2 d.5 a.5 in
        let w = word_of_field P q tuple.0 d.1 i a.1 fl.0 tuple.2 fl.1 in
        let yw = word_fits P q v.0 a.3 a.1 a.7 v.3 in
        let up : Rises q (filled_at d.0 i q) = rises_filled q d.0 i in
        let written = field_written P q tuple.0 d.1 i a.1 fl.0 v.0 tuple.2 fl.1 yw in
        let stored = tuples_filled P q q h d.0 i d.1 (slice_set tuple.0 i v.0) heap d.4 written in
        let within = slice_get_within tuple.0 i w.0 w.1 in
        let y = sim.heaps.same d.0 tuple.0 tuple.1 in
        let e1 = y.2 in let e2 = d.6 in
        let z : Some y.0 ≡ Some d.2 = sym e1 ∙ e2 in
        let same : y.0 ≡ d.2 = cc in
        let kx : slice_get K d.2 ≡ Some y.1 = ap (slice_get K) (sym same) ∙ y.3 in
        let lt : i < length y.1 = omega (arith, within, images_length p tuple.0 y.1 y.4) in
        let to = kept P x (St rd i rs) c in
        let rest = erase_seq
        (code m P (after m L (St rd i rs) c (kept P x (St rd i rs) c)) (kept P x (St rd i rs) c) c) in
        let left = slots_left m (used_by (way_of m L.used rd c) L.used) c in
        let tail1 = efinish m L rd (count_by (way_of m L.used rd c) left) (highs m to) (way_of m L.used rd c) rest in
        let tail2 = EThen (ESt (into m rd) i (second_at m L.homes rs)) tail1 in
        let t : EWord = EAddress d.2 in
        let l1 = loads B m K ρ (first_reg m) (L.homes rd) (eload m (second_reg m) (L.homes rs) tail2) (EAddress d.2)
        d.7 tt in
        let s1 : (s : ℕ) → s ≤ m + 2 → l1.regs s ≡ ρ s = λ s le. l1.others s (λ u. absurd (omega arith)) in
        let l2 = loads B m K l1.regs (second_reg m) (L.homes rs) tail2 v.1
        (stored_home l1.regs rd rs (EAddress d.2) v.1 near d.7 l1.here s1 v.6) v.5 in
        let s2 : (s : ℕ) → s ≤ m + 2 → l2.regs s ≡ ρ s = λ s le. l2.others s (λ u. absurd (omega arith)) ∙ s1 s le in
        let three : l2.regs (into m rd) ≡ Some (EAddress d.2) =
        ap l2.regs (sym (stored_at m L rd near.1))
        ∙ l2.others (at_home (first_reg m) (L.homes rd))
        (stored_far m L rd (second_reg m) near.1 (omega arith))
        ∙ l1.here in
        let s3 = st_step B K l2.regs (into m rd) i (second_at m L.homes rs) tail1 d.2 y.1 v.1 three kx l2.here lt in
        let K1 : EHeap = slice_set K d.2 (slice_set y.1 i v.1) in
        let h1 : Heap = slice_set h d.0 (slice_set tuple.0 i v.0) in
        let hs = heaps_set p h K d.0 d.2 i tuple.0 y.1 v.0 v.1 sim.heaps d.6 tuple.1 kx y.4 v.4 in
        let im : image p (AddressWord d.0) ≡ Some (EAddress d.2) = ap (option_map EAddress) d.6 in
        let mid = mid_written m p x L n h h1 r K l2.regs rd d.2 d.0 (slice_set y.1 i v.1) d.6 hs
        (mid_here m p x L n h r K ρ l2.regs rd (AddressWord d.0) t near.0 s2 sim im tt d.3 three) in
        let N = finish_at m B p x to L c (way_of m L.used rd c) left (highs m to) h1 r K1 l2.regs rd _ rest
        (way_fits m L.used rd c) near.1
        (subst (λ u. Mid m p x L u h1 r K1 l2.regs rd) en mid) (fits_with rd _ (St rd i rs) c refl) refl in
        let q1 : HeapTypes = filled_at d.0 i q in
        after_it (St rd i rs) c k q1 p h1 r (EAt K1 l2.regs tail1) (
          d.0,
          tuple.0,
          v.0,
          d.3,
          tuple.1,
          within,
          v.2,
          refl,
          refl,
        )
        (walk_moves B _ _ _ l1.walks (walk_moves B _ _ _ l2.walks (moves_step B _ _ s3))) N
        (tuples_rise P q q1 up q1 _ stored)
        (subst (λ g. RegsHave P q1 g r) (sym a.8)
        (regs_retyped P q1 (lookup x) r rd (TupleTy (filled a.0 i)) (AddressWord d.0)
        (regs_rise P q q1 up (lookup x) r regs) d.3
        (filled d.1 i, filled a.0 i, at_filled q d.0 i d.1 d.4, refl, both_filled d.1 a.0 i d.5)))
        k.2 (rises_next (start_types P) q q1 begun up) still near

    unpack_case : (rd : ℕ) (v : TValue) (c : TSeq) → Regular m L → n ≡ 0 →
        SeqAccepted P 0 (lookup x) (Then (Unpack rd v) c) →
        Goal (Unpack rd v) c
    unpack_case rd v c reg en k =
        let a = k.1 in
        let y = value_has P q (lookup x) r begun regs v (ExistsTy a.0) a.1 in
        let d = is_pack P q y.0 a.0 y.2 in
        let ev = value_in m some P closed tuples blocks B labels ascend p r K ρ L.homes x still sim.has v
        (ExistsTy a.0) y.0 a.1 y.1 in
        let im : image p d.1 ≡ Some ev.0 = sym (ap (image p) d.3) ∙ ev.2 in
        let b = erase_value v in
        let left = kept P x (Unpack rd v) c in
        let wants = live P (next P x (Unpack rd v)) c in
        let ui : hidden_type (type_of P x v) ≡ a.0 = ap hidden_type (value_is P 0 x v (ExistsTy a.0) a.1) in
        let same1 : put_file 0 d.0 (next P x (Unpack rd v)) ≡ ins rd (put 0 d.0 a.0) x =
        sym (ins_over (putted VarTy over 0 d.0) 0 rd (hidden_type (type_of P x v)) (shift_file 1 0 x))
        ∙ ap₂ (λ y z. ins rd (put 0 d.0 y) z) ui (put_shift_law types_part file_over 0 d.0 x) in
        let to2 = keep wants (ins rd (put 0 d.0 a.0) x) in
        let same : put_file 0 d.0 (kept P x (Unpack rd v) c) ≡ keep wants (ins rd (put 0 d.0 a.0) x) =
        sym (keep_over (putted VarTy over 0 d.0) 0 wants (next P x (Unpack rd v))) ∙ ap (keep wants) same1 in
        let nums : highs m (kept P x (Unpack rd v) c) ≡ highs m (keep wants (ins rd (put 0 d.0 a.0) x)) =
        sym (highs_over (putted VarTy over 0 d.0) 0 m (kept P x (Unpack rd v) c)) ∙ ap (highs m) same in
        let acc1 : SeqAccepted P 1 (lookup (kept P x (Unpack rd v) c)) c = rest_acc (Unpack rd v) c k.0 1 k.1 k.2 in
        let L2 = layout m (kept P x (Unpack rd v) c) in
        let rest = erase_seq (code m P (layout m (kept P x (Unpack rd v) c)) (kept P x (Unpack rd v) c) c) in
        let tail1 = efinish m L rd 0 (highs m (kept P x (Unpack rd v) c)) Gathers rest in
        let tail2 = EThen (EMov (into m rd) (sp_base (second_at m L.homes) b)) tail1 in
        let F = fetches B m K ρ L.homes b tail2 ev.0 ev.1 in
        let s1 : (s : ℕ) → s ≤ m + 2 → F.regs s ≡ ρ s = λ s le. F.others s (λ u. absurd (omega arith)) in
        let s2 = mov_step B K F.regs (into m rd) (sp_base (second_at m L.homes) b) tail1 ev.0 F.here in
        let σ : ERegs = with_reg F.regs (into m rd) ev.0 in
        let r2 : RegWords = with_reg r rd d.1 in
        let fits : FitsFile (lookup (ins rd (put 0 d.0 a.0) x)) (keep wants (ins rd (put 0 d.0 a.0) x)) =
        fits_keep (lookup (ins rd (put 0 d.0 a.0) x)) wants (ins rd (put 0 d.0 a.0) x)
        (fits_self (ins rd (put 0 d.0 a.0) x) (ascends_ins rd (put 0 d.0 a.0) x asc)) in
        let mid = mid_of m p x L n h r r2 K F.regs rd d.1 ev.0 (λ s ne. reg s)
        (alike_regs m p x L n h r K ρ F.regs reg s1 sim) im
        (full_image P q p d.1 _ ev.0 d.4 im) (look_same r rd d.1) (λ s ne. look_other r rd s d.1 ne) in
        let count = slots_left m 0 (put_seq 0 d.0 c) in
        let N = finish_at m B p x (keep wants (ins rd (put 0 d.0 a.0) x)) L c Gathers count
        (highs m (kept P x (Unpack rd v) c)) h r2 K σ rd (put 0 d.0 a.0) rest tt (inl (reg rd))
        (subst (λ u. Mid m p x L u h r2 K (with_reg F.regs (into m rd) ev.0) rd) en mid)
        (subst (λ (g : RegTypes). FitsFile g (keep wants (ins rd (put 0 d.0 a.0) x)))
        (lookup_ins rd (put 0 d.0 a.0) x) fits) nums in
        let lays : layout m (keep wants (ins rd (put 0 d.0 a.0) x)) ≡ layout m (kept P x (Unpack rd v) c) =
        ap (gathered m) (sym nums) in
        let acc2 : SeqAccepted P 0 (lookup (keep wants (ins rd (put 0 d.0 a.0) x))) (put_seq 0 d.0 c) =
        subst (λ g. SeqAccepted P 0 g (put_seq 0 d.0 c)) (known 0 d.0 P closed tuples d.5 0 (kept P x (Unpack rd v) c)
        ∙ ap lookup same) (seq_put 0 d.0 P closed tuples d.5 c 0 (lookup (kept P x (Unpack rd v) c)) (omega arith)
        acc1) in
        let ec : erase_seq (code m P (layout m (kept P x (Unpack rd v) c)) (keep wants (ins rd (put 0 d.0 a.0) x))
        (put_seq 0 d.0 c)) ≡ rest =
        ap (λ z. erase_seq (code m P (layout m (kept P x (Unpack rd v) c)) z (put_seq 0 d.0 c))) (sym same)
        ∙ erased_put 0 d.0 P closed tuples d.5 m c (layout m (kept P x (Unpack rd v) c)) 0
        (kept P x (Unpack rd v) c) (omega arith) acc1 in
        let known2 : RegsHave P q (lookup (ins rd (put 0 d.0 a.0) x)) r2 =
        subst (λ g. RegsHave P q g r2) (sym (lookup_ins rd (put 0 d.0 a.0) x))
        (regs_with P q (lookup x) r rd (put 0 d.0 a.0) d.1 regs d.4) in
        inr (
          Next,
          At h r2 (put_seq 0 d.0 c),
          EAt N.heap N.regs rest,
          (d.0, d.1, d.2, subst (Means r v) d.3 y.1, refl, refl),
          (moves_walk B _ _ _ (walk_moves B _ _ _ F.walks (moves_step B _ _ s2)) N.walks, refl),
          record {
            types = q;
            places = p;
            file = keep wants (ins rd (put 0 d.0 a.0) x);
            lay = layout m (kept P x (Unpack rd v) c);
            eheap = N.heap;
            eregs = N.regs;
            heap = heap;
            regs = regs_fit P q (lookup (ins rd (put 0 d.0 a.0) x)) (keep wants (ins rd (put 0 d.0 a.0) x)) r2 known2
                fits;
            acc = acc2;
            asc = ascends_keep wants (ins rd (put 0 d.0 a.0) x) (ascends_ins rd (put 0 d.0 a.0) x asc);
            up = begun;
            still = still;
            alike = subst (λ l. Alike m p (keep wants (ins rd (put 0 d.0 a.0) x)) l (slots_left m 0 (put_seq 0 d.0 c))
                h r2 N.heap N.regs) lays N.alike;
            ready = regular_ready m (layout m (kept P x (Unpack rd v) c)) (put_seq 0 d.0 c)
                (gathered_regular m (highs m (kept P x (Unpack rd v) c)));
            is = ap (EAt N.heap N.regs) (sym ec);
          },
          ap (λ z. sizes m P (layout m (kept P x (Unpack rd v) c)) z (put_seq 0 d.0 c)) (sym same)
              ∙ sizes_put 0 d.0 P closed tuples d.5 m c (layout m (kept P x (Unpack rd v) c)) 0
              (kept P x (Unpack rd v) c) (omega arith) acc1,
        )

    -- the registers of a jump's target
    target_highs : (v : TValue) (a : Enters P 0 (lookup x) v) → highs m (target_file (type_of P x v)) ≡ highs m a.0
    target_highs v a = ap (λ t. highs m (target_file t)) (value_is P 0 x v (CodeTy 0 a.0) a.1)

    -- a new frame for it, in the frame's register
    target_alike : (to : TFile) (ws : List EWord) (σ : ERegs) → Regular m L → FitsFile (lookup x) to →
        FrameHas p r (highs m to) ws →
        ((s : ℕ) → s ≤ m → σ s ≡ ρ s) → σ (frame_reg m) ≡ Some (EAddress (length K)) → (k : ℕ) →
        Alike m p to (layout m to) k h r (K ++ (ws ∷ [])) σ
    target_alike to ws σ reg fits fh s one k =
        framed m p to k h r (K ++ (ws ∷ [])) σ (length K) ws (heaps_frame p h K ws sim.heaps) one (get_end K ws [])
        (λ a z. let lt = place_below p h K sim.heaps a (length K) z in absurd (omega (arith, lt))) fh
        (λ i t le e.
        let v = fits_at (lookup x) to i t fits e in
        let w = subst (WordAt m p r K ρ i) (sound_held m L.used i (L.homes i) le (reg i))
        (sim.has i v.0 v.1) in
        record {
          word = w.word;
          eword = w.eword;
          known = w.known;
          stands = w.stands;
          full = w.full;
          home = s i le
              ∙ w.home;
        })

    -- the words of a frame for a target
    target_words : (to : TFile) (reg : Regular m L) → FitsFile (lookup x) to → (ws : List EWord)
        × Sources B m K ρ L.homes (up_3 reg) (highs m to) ws × FrameHas p r (highs m to) ws
    target_words to reg fits =
        frame_words m B p r K ρ L.homes (up_3 reg) (lookup x) sim.has (high_part m to) (fits_high (lookup x) m to fits)

    bnz_case : (s : ℕ) (v : TValue) (c : TSeq) → Regular m L → n ≡ slots_left m L.used c →
        SeqAccepted P 0 (lookup x) (Then (Bnz s v) c) → Goal (Bnz s v) c
    bnz_case s v c reg en k =
        let a = k.1 in
        let xi = reg_int s a.0 in
        let to = a.1.0 in
        let y = value_has P q (lookup x) r begun regs v (CodeTy 0 a.1.0) a.1.1 in
        let ev = value_in m some P closed tuples blocks B labels ascend p r K ρ L.homes x still sim.has v
        (CodeTy 0 a.1.0) y.0 a.1.1 y.1 in
        let b = erase_value v in
        let bv = sp_base (second_at m L.homes) b in
        let at1 = at_home (first_reg m) (L.homes s) in
        let rest = erase_seq (code m P L x c) in
        let tail0 = EThen (EMov (frame_reg m) (Reg (saved_reg m))) rest in
        let tail1 = EThen (EBnz at1 bv) tail0 in
        let tail2 = EThen (EMov (frame_reg m) (Reg (made_reg m))) tail1 in
        let tail3 = EThen (EMov (saved_reg m) (Reg (frame_reg m))) tail2 in
        let tail4 = ebase m L.homes b tail3 in
        let tail5 = eload m (first_reg m) (L.homes s) tail4 in
        let ws = target_words a.1.0 reg a.1.2 in
        let b1 = builds B m K ρ L.homes (up_3 reg) (highs m a.1.0) ws.0 tail5 ws.1 in
        let K1 : EHeap = K ++ (ws.0 ∷ []) in
        let o1 : (z : ℕ) → z ≤ m + 2 →
        b1.regs z ≡ ρ z = λ z le. b1.others z (λ w. absurd (omega arith)) (λ w. absurd (omega arith)) in
        let l = loads B m K1 b1.regs (first_reg m) (L.homes s) tail4 (EInt xi.0)
        (home_heap m K (ws.0 ∷ []) b1.regs (L.homes s) (EInt xi.0)
        (home_regs m K ρ b1.regs (m + 2) (L.homes s) (EInt xi.0) (omega arith) (up_2 reg s) o1 xi.2)) tt in
        let o2 : (z : ℕ) → z ≤ m + 2 → l.regs z ≡ ρ z = λ z le. l.others z (λ w. absurd (omega arith)) ∙ o1 z le in
        let F = fetches B m K1 l.regs L.homes b tail3 ev.0
        (base_heap m K (ws.0 ∷ []) l.regs L.homes b ev.0 (base_regs m K ρ l.regs L.homes b ev.0 (up_2 reg) o2 ev.1)) in
        let o3 : (z : ℕ) → z ≤ m + 2 → F.regs z ≡ ρ z = λ z le. F.others z (λ w. absurd (omega arith)) ∙ o2 z le in
        let old : EWord = EAddress sim.f in
        let new : EWord = EAddress (length K) in
        let σ1 : ERegs = with_reg F.regs (saved_reg m) (EAddress sim.f) in
        let σ2 : ERegs = with_reg σ1 (frame_reg m) (EAddress (length K)) in
        let σ3 : ERegs = with_reg σ2 (frame_reg m) (EAddress sim.f) in
        let s1 = mov_step B K1 F.regs (saved_reg m) (Reg (frame_reg m)) tail2 old (o3 (frame_reg m) (omega arith)
        ∙ sim.one) in
        let five : σ1 (made_reg m) ≡ Some (EAddress (length K)) =
        look_other F.regs (saved_reg m) (made_reg m) old (λ w. absurd (omega arith))
        ∙ F.others (made_reg m) (λ w. absurd (omega arith)) ∙ l.others (made_reg m) (λ w. absurd (omega arith))
        ∙ b1.made in
        let s2 = mov_step B K1 σ1 (frame_reg m) (Reg (made_reg m)) tail1 new five in
        let far : (z : ℕ) → z ≢ frame_reg m → z ≢ saved_reg m →
        σ2 z ≡ F.regs z = λ z g w. look_other σ1 (frame_reg m) z new g ∙ look_other F.regs (saved_reg m) z old w in
        let test : σ2 (at_home (first_reg m) (L.homes s)) ≡ Some (EInt xi.0) =
        far (at_home (first_reg m) (L.homes s))
        (at_far (first_reg m) m (frame_reg m) (L.homes s) (up_m reg s) (λ w. absurd (omega arith)) (omega arith))
        (at_far (first_reg m) m (saved_reg m) (L.homes s) (up_m reg s) (λ w. absurd (omega arith)) (omega arith))
        ∙ F.others (at_home (first_reg m) (L.homes s))
        (at_far (first_reg m) m (second_reg m) (L.homes s) (up_m reg s) (λ w. absurd (omega arith)) (omega arith))
        ∙ l.here in
        let here : base_word σ2 (sp_base (second_at m L.homes) b) ≡ Some ev.0 =
        base_kept m some P closed tuples blocks B labels ascend F.regs σ2 L.homes b ev.0 (up_m reg)
        (λ z w. far z (far_from m some P closed tuples blocks B labels ascend (frame_reg m) z (omega arith)
        (λ g. absurd (omega arith)) w)
        (far_from m some P closed tuples blocks B labels ascend (saved_reg m) z (omega arith)
        (λ g. absurd (omega arith)) w)) F.here in
        let low : (z : ℕ) → z ≤ m → σ2 z ≡ ρ z = λ z le. far z (λ w. absurd (omega arith)) (λ w. absurd (omega arith))
        ∙ o3 z (omega arith) in
        let one2 : σ2 (frame_reg m) ≡ Some (EAddress (length K)) = look_same σ1 (frame_reg m) new in
        let six : σ2 (saved_reg m) ≡ Some (EAddress sim.f) =
        look_other σ1 (frame_reg m) (saved_reg m) new (λ w. absurd (omega arith))
        ∙ look_same F.regs (saved_reg m) old in
        let runs : Moves B (EAt K ρ (ebuild m L.homes (highs m a.1.0) tail5)) (EAt (K ++ (ws.0 ∷ [])) σ2 tail1) =
        moves_walk B _ _ _ b1.moves
        (walks_on B _ _ _ l.walks
        (walks_on B _ _ _ F.walks (walks_on B _ _ _ (walks_step B _ _ s1) (walks_step B _ _ s2)))) in
        let T = arrives m some P closed tuples blocks B labels ascend q p x a.1.0 h r (K ++ (ws.0 ∷ [])) σ2 y.0 heap
        regs begun still a.1.2 y.2 (target_alike a.1.0 ws.0 σ2 reg a.1.2 ws.2 low one2) in
        let result : Follows m P B (sizes m P L x c) (suc (esize (erase_seq (code m P L x c))))
        (At h r (Then (Bnz s v) c)) (EAt K ρ (ebuild m L.homes (highs m a.1.0) tail5)) =
        ⊎_elim
        (λ (e : is_zero xi.0 ≡ true).
        let s3 = stay_step B K1 σ2 at1 bv tail0 xi.0 test e in
        let s4 = mov_step B K1 σ2 (frame_reg m) (Reg (saved_reg m)) rest old six in
        let back : (z : ℕ) → z ≤ m + 2 → σ3 z ≡ ρ z = λ z le. ⊎_elim
        (λ (g : z ≡ frame_reg m). ap σ3 g ∙ look_same σ2 (frame_reg m) old ∙ sym sim.one ∙ ap ρ (sym g))
        (λ (g : z ≢ frame_reg m). look_other σ2 (frame_reg m) z old g ∙ far z g (λ w. absurd (omega arith)) ∙ o3 z le)
        (cases_eq z (frame_reg m)) in
        let sim2 = alike_regs m p x L n h r (K ++ (ws.0 ∷ [])) ρ σ3 reg back (alike_frame m p x L n h r K ρ ws.0 sim) in
        inr (
          Next,
          At h r c,
          EAt (K ++ (ws.0 ∷ [])) σ3 rest,
          (xi.0, xi.1, inl (e, refl, refl)),
          (moves_walk B _ _ _ runs (walks_on B _ _ _ (walks_step B _ _ s3) (walks_step B _ _ s4)), refl),
          record {
            types = q;
            places = p;
            file = x;
            lay = L;
            eheap = K ++ (ws.0 ∷ []);
            eregs = σ3;
            heap = heap;
            regs = regs;
            acc = subst (λ g. SeqAccepted P 0 g c) a.2 k.2;
            asc = asc;
            up = begun;
            still = still;
            alike = subst (λ u. Alike m p x L u h r (K ++ (ws.0 ∷ [])) σ3) en sim2;
            ready = regular_ready m L c reg;
            is = refl;
          },
          refl,
        ))
        (λ (e : is_zero xi.0 ≡ false).
        let e1 = ev.2 in let e2 = T.label in
        let z : Some ev.0 ≡ Some (ELabel (suc T.l)) = sym e1 ∙ e2 in
        let s3 = leave_step B K1 σ2 at1 bv tail0 xi.0 test e
        ∙ enter_step B K1 σ2 bv (suc T.l) T.ec (here ∙ z) T.block in
        inr (
          Into T.l,
          At h r T.c,
          EAt (K ++ (ws.0 ∷ [])) σ2 T.ec,
          (xi.0, xi.1, inr (e, (y.0, T.l, T.c, y.1, T.entry, refl, refl))),
          (EAt (K ++ (ws.0 ∷ [])) σ2 tail1, moves_walks B _ _ runs, s3, omega arith),
          T.there,
          T.sized,
        ))
        (either (is_zero xi.0)) in
        subst (λ tg. Follows m P B (sizes m P L x c) (suc (esize (erase_seq (code m P L x c))))
        (At h r (Then (Bnz s v) c)) (EAt K ρ (ebuild m L.homes tg tail5))) (sym (target_highs v a.1)) result

    jmp_case : (v : TValue) → Regular m L → SeqAccepted P 0 (lookup x) (Ends (Jmp v)) →
        Follows m P B [] 0 (At h r (Ends (Jmp v))) (EAt K ρ (eend m L (highs m (end_target P x (Jmp v))) (Jmp v)))
    jmp_case v reg a =
        let y = value_has P q (lookup x) r begun regs v (CodeTy 0 a.0) a.1 in
        let ev = value_in m some P closed tuples blocks B labels ascend p r K ρ L.homes x still sim.has v
        (CodeTy 0 a.0) y.0 a.1 y.1 in
        let b = erase_value v in
        let bv = sp_base (second_at m L.homes) b in
        let tail1 = EJmp bv in
        let tail2 = EThen (EMov (frame_reg m) (Reg (made_reg m))) tail1 in
        let tail3 = ebase m L.homes b tail2 in
        let ws = target_words a.0 reg a.2 in
        let b1 = builds B m K ρ L.homes (up_3 reg) (highs m a.0) ws.0 tail3 ws.1 in
        let K1 : EHeap = K ++ (ws.0 ∷ []) in
        let o1 : (z : ℕ) → z ≤ m + 2 →
        b1.regs z ≡ ρ z = λ z le. b1.others z (λ w. absurd (omega arith)) (λ w. absurd (omega arith)) in
        let F = fetches B m K1 b1.regs L.homes b tail2 ev.0
        (base_heap m K (ws.0 ∷ []) b1.regs L.homes b ev.0 (base_regs m K ρ b1.regs L.homes b ev.0
        (up_2 reg) o1 ev.1)) in
        let new : EWord = EAddress (length K) in
        let five : F.regs (made_reg m) ≡ Some (EAddress (length K)) = F.others (made_reg m) (λ w. absurd (omega arith))
        ∙ b1.made in
        let s2 = mov_step B K1 F.regs (frame_reg m) (Reg (made_reg m)) tail1 new five in
        let σ2 : ERegs = with_reg F.regs (frame_reg m) (EAddress (length K)) in
        let far : (z : ℕ) → z ≢ frame_reg m → σ2 z ≡ F.regs z = λ z g. look_other F.regs (frame_reg m) z new g in
        let here : base_word σ2 (sp_base (second_at m L.homes) b) ≡ Some ev.0 =
        base_kept m some P closed tuples blocks B labels ascend F.regs σ2 L.homes b ev.0 (up_m reg)
        (λ z w. far z (far_from m some P closed tuples blocks B labels ascend (frame_reg m) z (omega arith)
        (λ g. absurd (omega arith)) w)) F.here in
        let low : (z : ℕ) → z ≤ m → σ2 z ≡ ρ z = λ z le. far z (λ w. absurd (omega arith))
        ∙ F.others z (λ w. absurd (omega arith)) ∙ o1 z (omega arith) in
        let one2 : σ2 (frame_reg m) ≡ Some (EAddress (length K)) = look_same F.regs (frame_reg m) new in
        let T = arrives m some P closed tuples blocks B labels ascend q p x a.0 h r (K ++ (ws.0 ∷ [])) σ2 y.0 heap regs
        begun still a.2 y.2 (target_alike a.0 ws.0 σ2 reg a.2 ws.2 low one2) in
        let e1 = ev.2 in let e2 = T.label in
        let z : Some ev.0 ≡ Some (ELabel (suc T.l)) = sym e1 ∙ e2 in
        let s3 = enter_step B K1 σ2 bv (suc T.l) T.ec (here ∙ z) T.block in
        subst (λ tg. Follows m P B [] 0 (At h r (Ends (Jmp v))) (EAt K ρ (eend m L tg (Jmp v))))
        (sym (target_highs v a))
        (inr (
          Into T.l,
          At h r T.c,
          EAt (K ++ (ws.0 ∷ [])) σ2 T.ec,
          (y.0, T.l, T.c, y.1, T.entry, refl, refl),
          (
            EAt (K ++ (ws.0 ∷ [])) σ2 tail1,
            walks_on B _ _ _ (moves_walks B _ _ b1.moves) (walks_on B _ _ _ F.walks (walks_step B _ _ s2)),
            s3,
            omega arith,
          ),
          T.there,
          T.sized,
        ))

    halt_case : Regular m L → SeqAccepted P 0 (lookup x) (Ends Halt) →
        Follows m P B [] 0 (At h r (Ends Halt)) (EAt K ρ (eend m L (highs m (end_target P x Halt)) Halt))
    halt_case reg k =
        let xi = reg_int 1 k in
        inl (
          xi.0,
          xi.1,
          record {
            eheap = K;
            eregs = ρ;
            walks = walks_none B _;
            answer =
                subst (λ y. HomeAt m K ρ y (EInt xi.0)) (sound_held m L.used 1 (L.homes 1) some (reg 1)) xi.2;
          },
        )

    step_case : (i : TInstr) (c : TSeq) → ReadyFor m L i → n ≡ slots_left m L.used (Then i c) →
        SeqAccepted P 0 (lookup x) (Then i c) →
        Goal i c
    step_case (Arith op rd rs v) c ready e k = arith_case op rd rs v c ready e k
    step_case (Bnz s v) c ready e k = bnz_case s v c ready e k
    step_case (Ld rd rs i) c ready e k = ld_case rd rs i c ready e k
    step_case (Malloc rd ts) c ready e k = malloc_case rd ts c ready e k
    step_case (Mov rd v) c ready e k = mov_case rd v c ready e k
    step_case (St rd i rs) c ready e k = st_case rd i rs c ready e k
    step_case (Unpack rd v) c ready e k = unpack_case rd v c ready e k

    follows_at : (c : TSeq) → Ready m L c → n ≡ slots_left m L.used c → SeqAccepted P 0 (lookup x) c →
        Follows m P B (tail_sizes m P L x c) (tail_left m P L x c) (At h r c) (EAt K ρ (erase_seq (code m P L x c)))
    follows_at (Then i c) ready e k =
        subst (λ z. Follows m P B (sizes m P (after m L i c (kept P x i c)) (kept P x i c) c)
        (suc (esize (erase_seq (code m P (after m L i c (kept P x i c)) (kept P x i c) c)))) (At h r (Then i c))
        (EAt K ρ z))
        (sym (erase_then m P L x i c)) (step_case i c ready e k)
    follows_at (Ends (Jmp v)) ready e k =
        subst (λ z. Follows m P B [] 0 (At h r (Ends (Jmp v))) (EAt K ρ z)) (sym (erase_end_code m P L x (Jmp v)))
        (jmp_case v ready k)
    follows_at (Ends Halt) ready e k = halt_case ready k

  -- what the spilled program makes of a step
  pub follows : (s : State) (e : EState) (a : Matches m P s e) →
      Follows m P B (tail_sizes m P a.lay a.file (code_of s)) (tail_left m P a.lay a.file (code_of s)) s e
  follows (At h r c) e a =
      subst (Follows m P B (tail_sizes m P a.lay a.file c) (tail_left m P a.lay a.file c) (At h r c)) (sym a.is)
      (follows_at a.types a.places a.file a.lay (slots_left m a.lay.used c) h r a.eheap a.eregs a.heap a.regs a.asc
      a.up a.still a.alike c a.ready refl a.acc)
