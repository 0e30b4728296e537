-- A hoisted program that has a type is never stuck.
use Rattle.std.proofs.Common.{◌≡◌, ℕ, zero, suc, nat_eq, List, [], ◌∷◌, Some, None, refl, sym, ap, ◌∙◌, subst, eq-eqb}
use Rattle.calc_core.specs.Ends.{if_fits, lift, after_one}
use Rattle.calc_core.specs.Words.{NoWords, MoreWords, size, onto}
use Rattle.calc_core.proofs.Ends.{Fine, fits_fine}
use Rattle.calc_core.proofs.Substituting.{named_sub, subs_count, subs_sub}
use Rattle.calc_core.specs.Calculus.{opens, scope_more}
use Rattle.calc_core.proofs.Declared.{sound_d}
use Rattle.calc_core.proofs.Words as W
use Rattle.calc_core.proofs.Words.{Has, Have, EnvHas, Stored}
use Rattle.c_terms.specs.C.{CTy, CTys, TCCode, TCInt, TCVar, ccount}
use Rattle.c_terms.specs.Typing.{cargs_onto, csub, csubs, cup, names, scons}
use Rattle.h_terms.specs.H.{HApply, HBlk, HBlks, HCall, HHalt, HIf, HInt, HLabel, HLet}
use Rattle.h_terms.specs.H.{HPack, HTm, HTuple, HVal, HVals, HVar, MoreHVals, NoHVals, block_at}
use Rattle.h_terms.specs.Meaning.{HEnter, HWord, HWords, hd_value, henter, hopen, hrun, hterm, hv_value, hvs_value}
use Rattle.h_terms.specs.Meaning.{with_block}
use Rattle.h_terms.specs.Typing.{BlockHas, AllGood, HTyped, HHas, HHave}

module _ (ks : HBlks) where
  -- a label's type is its block's, under some types
  abbrev IsLabel : W.CodeIs ℕ
  IsLabel l owes us s g = (k : HBlk) × (r : ℕ → CTy) × (block_at ks l ≡ Some k) × (us ≡ csubs r k.args)

  mutual
    sound_v : (v : HVal) (n : ℕ) (env : HWords) (S : List CTy) (s : ℕ → CTy) (g : List CTy) (t : CTy) →
        HHas ks n g v t → EnvHas IsLabel S env s g → Has IsLabel S (hv_value v env) (csub s t)
    sound_v (HVar i) n env S s g t h e = W.env_at IsLabel env S s g i t e h
    sound_v (HInt m) n env S s g t h e = (0, ap (csub s) h)
    sound_v (HLabel l) n env S s g t h e =
        let k = h.0 in
        let r = cup k.owes s in
        (k.owes, csubs r k.args, s, [], (0, ap (csub s) h.2), (k, r, h.1, refl), refl)
    sound_v (HTuple vs) n env S s g t h e = (csubs s h.0, (0, ap (csub s) h.1), sound_vs vs n env S s g h.0 h.2 e)
    sound_v (HApply v ts) n env S s g t h e =
        let o = h.0 in
        let ts' = csubs s ts in
        let all = csubs (cup (lift o (ccount ts)) s) h.1 in
        W.code_only IsLabel {P = Has IsLabel S (hv_value v env) (csub s t)} (hv_value v env) S (lift o (ccount ts)) all
        (sound_v v n env S s g (TCCode (lift o (ccount ts)) h.1) h.3 e)
        (λ l made p q ev is own. subst (λ y. Has IsLabel S y (csub s t)) (sym ev) (
          o,
          csubs (cup o (names ts' TCVar)) all,
          p,
          q,
          (0, ap (csub s) h.2 ∙ ap (TCCode o) (named_sub o ts h.1 s)),
          (
            is.0,
            (λ i. csub (cup o (names ts' TCVar)) (is.1 i)),
            is.2,
            ap (csubs (cup o (names ts' TCVar))) is.3
                ∙ subs_sub (is.0).args (cup o (names ts' TCVar)) is.1 (λ i. csub (cup o (names ts' TCVar)) (is.1 i))
                (λ i. refl),
          ),
          own,
        ))
    sound_v (HPack hid v shape) n env S s g t h e =
        subst (λ z. Has IsLabel S (hv_value v env) (csub s z)) (sym (h.2 ∙ h.1))
        (W.pack_sound IsLabel (hv_value v env) S s h.0 hid (sound_v v n env S s g (csub (scons hid TCVar) h.0) h.5 e))

    sound_vs : (vs : HVals) (n : ℕ) (env : HWords) (S : List CTy) (s : ℕ → CTy) (g : List CTy) (ts : CTys) →
        HHave ks n g vs ts → EnvHas IsLabel S env s g → Have IsLabel S (hvs_value vs env) (csubs s ts)
    sound_vs NoHVals n env S s g ts h e = ap (csubs s) h
    sound_vs (MoreHVals v vs) n env S s g ts h e =
        (csub s h.0, csubs s h.1, ap (csubs s) h.2, sound_v v n env S s g h.0 h.3 e, sound_vs vs n env S s g h.1 h.4 e)

  abbrev SafeEnter : HEnter → Type 0
  SafeEnter he = (l : ℕ) (body : HTm) (n : ℕ) (env st : HWords) (S : List CTy) (s : ℕ → CTy) (g : List CTy) →
      HTyped ks n g body → EnvHas IsLabel S env s g → Stored IsLabel S st S → Fine (he l body env st).end

  good_at : (xs : HBlks) (l : ℕ) (k : HBlk) → AllGood ks xs → block_at xs l ≡ Some k →
      HTyped ks k.owes (cargs_onto k.args []) k.body
  good_at [] l k a e = absurd (none e)
    where
      none : None ≡ Some k → ⊥
      none q = cc
  good_at (x ∷ xs) zero k a e = let q : x ≡ k = cc in subst (λ z. HTyped ks z.owes (cargs_onto z.args []) z.body) q
      a.0.1
  good_at (x ∷ xs) (suc l) k a e = good_at xs l k a.1 e

  module _ (good : AllGood ks ks) where
    call_sound : (he : HEnter) → SafeEnter he →
        (v : HWord) (vs st : HWords) (S : List CTy) (s : ℕ → CTy) (ts us : CTys) →
        Has IsLabel S v (csub s (TCCode (ccount ts) us)) → Have IsLabel S vs (csubs s (csubs (names ts TCVar) us)) →
        Stored IsLabel S st S → Fine (hopen ks he v vs st).end
    call_sound he f v vs st S s ts us h k w =
        W.code_only IsLabel {P = Fine (hopen ks he v vs st).end} v S (ccount ts) (csubs (cup (ccount ts) s) us) h
        (λ l made p q ev is own. subst (λ y. Fine (hopen ks he y vs st).end) (sym ev)
        (subst (λ o.
        Fine (with_block o
        (λ k. if_fits (nat_eq (size vs) (ccount k.args)) (he l k.body (onto vs NoWords) st))).end) (sym is.2)
        (let b = is.0 in
        let s2 : ℕ → CTy = λ i. csub (names (csubs s ts) TCVar) (is.1 i) in
        let types : csubs s (csubs (names ts TCVar) us) ≡ csubs s2 b.args =
        named_sub 0 ts us s ∙ ap (csubs (names (csubs s ts) TCVar)) is.3
        ∙ subs_sub b.args (names (csubs s ts) TCVar) is.1 s2 (λ i. refl) in
        fits_fine (nat_eq (size vs) (ccount b.args)) (he l b.body (onto vs NoWords) st)
        (eq-eqb (size vs) (ccount b.args) (W.have_size IsLabel vs S _ k ∙ ap ccount types ∙ subs_count s2 b.args))
        (f l b.body b.owes (onto vs NoWords) st S s2 (cargs_onto b.args []) (good_at ks l b good is.2)
        (W.args_has IsLabel vs NoWords S s2 b.args _ [] k types refl) w))))

    sound_t : (he : HEnter) → SafeEnter he →
        (t : HTm) (n : ℕ) (env st : HWords) (S : List CTy) (s : ℕ → CTy) (g : List CTy) → HTyped ks n g t →
        EnvHas IsLabel S env s g → Stored IsLabel S st S → Fine (hterm ks he t env st).end
    sound_t he f (HLet d t) n env st S s g h e w =
        let r =
        sound_d IsLabel (BlockHas ks) n S s g (λ v. hv_value v env) (λ v u. hv_value u env)
        (λ v t q. sound_v v n env S s g t q e) (λ v u t q. sound_v u n env S s g t q e) d env st h.0 h.1 e w in
        W.value_fine IsLabel (hd_value d env st) _ S (csub r.0 h.0) r.2
        (λ y st2 Z m k w2. sound_t he f t (after_one (opens d) n) (MoreWords y env) st2 Z r.0
        (h.0 ∷ scope_more (opens d) g) h.2
        (h.0, scope_more (opens d) g, refl, k, W.env_more IsLabel env S Z r.0 (scope_more (opens d) g) m r.1) w2)
    sound_t he f (HCall c ts vs) n env st S s g h e w =
        call_sound he f (hv_value c env) (hvs_value vs env) st S s ts h.0 (sound_v c n env S s g _ h.1 e)
        (sound_vs vs n env S s g _ h.3 e) w
    sound_t he f (HIf v t u) n env st S s g h e w =
        W.zero_fine IsLabel (hv_value v env) S _ _ (sound_v v n env S s g TCInt h.0 e)
        (sound_t he f t n env st S s g h.1 e w) (sound_t he f u n env st S s g h.2 e w)
    sound_t he f (HHalt v) n env st S s g h e w =
        W.halt_fine IsLabel (hv_value v env) S (sound_v v n env S s g TCInt h e)

    safe : (n : ℕ) → SafeEnter (henter ks n)
    safe zero l body m env st S s g h e w = tt
    safe (suc n) l body m env st S s g h e w = sound_t (henter ks n) (safe n) body m env st S s g h e w

    pub h_never_stuck : (t : HTm) → HTyped ks 0 [] t → (n : ℕ) → Fine (hrun n ks t).end
    h_never_stuck t h n = sound_t (henter ks n) (safe n) t 0 NoWords NoWords [] TCVar [] h refl refl
