-- A declaration, a choice, what a let and an open bind: run like the evaluation.
use Rattle.std.proofs.Common.{Bool, true, false, ◌≡◌, ℕ, zero, suc, ◌+◌, ◌<◌, ◌≤◌, List, Option, Some, None, refl, sym}
use Rattle.std.proofs.Common.{ap, subst, arith}
use Rattle.std.specs.Prelude.{cond}
use Rattle.idx_core.specs.declared.arith.Op.{Op}
use Rattle.idx_core.specs.Arith.{is_zero, compute}
use Rattle.calc_core.specs.Ends as B
use Rattle.k_terms.specs.K.{KProj, KArith, KCell, KGet, KSet, KTm, kv_next, kt_next}
use Rattle.calc_core.specs.Words.{WInt, WTuple, WCell, NoWords, MoreWords, size, field, held, hold, one_more}
use Rattle.calc_core.specs.Words.{with_value, at_zero}
use Rattle.k_terms.specs.Meaning.{KWord, KWords, kv_value}
use Rattle.calc_core.specs.Words as M
use Rattle.f_terms.specs.Ty.{Ty}
use Rattle.f_terms.specs.Eval.{Val, VInt, VTup, VFun, VSus, VCell, Vals, Empty, And, Result, Gives, Spent, Stuck}
use Rattle.f_terms.specs.Eval.{Results, GiveAll, SpentAll, StuckAll, then_eval, then_all, all_then, as_tuple, value_at}
use Rattle.f_terms.specs.Eval.{cells, given, project, fetch, assign, operate, choose}
use Rattle.f_terms.specs.Eval as E
use Rattle.k_laws.specs.Cps.{Atom, Level, packing}
use Rattle.k_laws.specs.Translates.{Thing, Plain, Made, Things, MoreThings, named, tuple_of, Forms, AnyRest, deliver}
use Rattle.k_laws.specs.Translates.{two_form, one_form, let_form, open_form}
use Rattle.k_laws.proofs.Runs.{run}
use Rattle.k_laws.proofs.Related.{Rel, Ext, ext_same, ext_more, ext_trans, RelAll, DenAtom, Den, den_more, gives}
use Rattle.k_laws.proofs.Related.{den_top, Dens, den_tuple, field_of, rel_count, rel_last, rel_hold, held_of}
use Rattle.k_laws.proofs.Endings.{AtSpent, AtStuck, End, le_v, Ends_as, Does, Good, Is, Ready, good_more, is_stuck}
use Rattle.k_laws.proofs.Endings.{does_name, good_deliver}

-- the code with the number c is counted, in an evaluation that ends in this way
module _ (c : ℕ) (O : End) where
  -- what goes on, with a word for the value and a store for the store
  abbrev Next : ℕ → ℕ → ℕ → KWords → KTm → Val → Vals → Type 0
  Next n a' b1 kenv rest v st = (w : KWord) → Rel v w → (kst : KWords) → RelAll st kst →
      Ends_as c O O n a' (λ j. run j b1 (MoreWords w kenv) rest kst)

  -- a good k goes on with what was declared
  next : (v : Val) (n a b1 td : ℕ) (st : Vals) (k : AnyRest) (kenv : KWords) (rest : KTm) → Good c O a k kenv v n st →
      deliver k td (suc (size kenv)) (named (size kenv)) rest → (u : ℕ) → (b1 ≤ c → c < kt_next b1 rest → 1 ≤ u) →
      Next n (a + u) b1 kenv rest v st
  next v n a b1 td st k kenv rest g del u q w r kst rs =
      (good_deliver c O a k (MoreWords w kenv) v n st b1 td (named (size kenv)) rest
      (good_more c O a k _ kenv v n st (ext_more _ _ _ (ext_same kenv)) g) (den_top kenv v w r) del).does kst rs u q

  -- the same for whatever the evaluation gives
  abbrev NextOf : ℕ → ℕ → KWords → KTm → ℕ → Result → Type 0
  NextOf a' b1 kenv rest n (Gives v m st) = m ≤ n → Next m a' b1 kenv rest v st
  NextOf a' b1 kenv rest n Spent = O ≡ AtSpent
  NextOf a' b1 kenv rest n Stuck = O ≡ AtStuck

  next_of : (n a b1 td : ℕ) (k : AnyRest) (kenv : KWords) (rest : KTm) (r : Result) → Ready c O a k kenv n r →
      deliver k td (suc (size kenv)) (named (size kenv)) rest → (u : ℕ) → (b1 ≤ c → c < kt_next b1 rest → 1 ≤ u) →
      NextOf (a + u) b1 kenv rest n r
  next_of n a b1 td k kenv rest (Gives v m st) h del u q = λ le. next v m a b1 td st k kenv rest (h le) del u q
  next_of n a b1 td k kenv rest Spent h del u q = h.is
  next_of n a b1 td k kenv rest Stuck h del u q = h.is

  stuck : (n a : ℕ) (r : ℕ → B.Result) → O ≡ AtStuck → Ends_as c O O n a r
  stuck n a r o = let p : Ends_as c O AtStuck n a r = tt in subst (λ o. Ends_as c O o n a r) (sym o) p

  arith_words : (op : Op) (v w : Val) (wx wy : KWord) (n a' b1 : ℕ) (kenv : KWords) (rest : KTm) (st : Vals) →
      Rel v wx → Rel w wy → NextOf a' b1 kenv rest n (operate op v w n st) → (kst : KWords) → RelAll st kst →
      Ends_as c O O n a'
      (λ j. with_value (M.given (M.operate op wx wy) kst) (λ z s2. run j b1 (MoreWords z kenv) rest s2))
  arith_words op (VInt x) (VInt y) wx wy n a' b1 kenv rest st rx ry h kst rs =
      rw (rx, ry) (h (omega arith) (WInt (compute op x y)) refl kst rs)
  arith_words op (VInt x) (VTup vs) wx wy n a' b1 kenv rest st rx ry h kst rs = stuck n a' _ h
  arith_words op (VInt x) (VCell i) wx wy n a' b1 kenv rest st rx ry h kst rs = stuck n a' _ h
  arith_words op (VInt x) (VFun env body) wx wy n a' b1 kenv rest st rx ry h kst rs = stuck n a' _ h
  arith_words op (VInt x) (VSus env body) wx wy n a' b1 kenv rest st rx ry h kst rs = stuck n a' _ h
  arith_words op (VTup vs) w wx wy n a' b1 kenv rest st rx ry h kst rs = stuck n a' _ h
  arith_words op (VCell i) w wx wy n a' b1 kenv rest st rx ry h kst rs = stuck n a' _ h
  arith_words op (VFun env body) w wx wy n a' b1 kenv rest st rx ry h kst rs = stuck n a' _ h
  arith_words op (VSus env body) w wx wy n a' b1 kenv rest st rx ry h kst rs = stuck n a' _ h

  field_words : (i : ℕ) (vs : Vals) (ws : KWords) (n a' b1 : ℕ) (kenv : KWords) (rest : KTm) (st : Vals) →
      RelAll vs ws → (o : Option Val) → value_at vs i ≡ o → NextOf a' b1 kenv rest n (given o n st) →
      (kst : KWords) → RelAll st kst →
      Ends_as c O O n a'
      (λ j. with_value (M.given (field (suc i) ws) kst) (λ w s2. run j b1 (MoreWords w kenv) rest s2))
  field_words i vs ws n a' b1 kenv rest st r None e h kst rs = stuck n a' _ h
  field_words i vs ws n a' b1 kenv rest st r (Some v) e h kst rs =
      let w = field_of vs ws i v r e in
      rw w.1 (h (omega arith) w.0 w.2 kst rs)

  proj_words : (i : ℕ) (v : Val) (wx : KWord) (n a' b1 : ℕ) (kenv : KWords) (rest : KTm) (st : Vals) → Rel v wx →
      NextOf a' b1 kenv rest n (project i v n st) → (kst : KWords) → RelAll st kst →
      Ends_as c O O n a' (λ j. with_value (M.given (M.project i wx) kst) (λ w s2. run j b1 (MoreWords w kenv) rest s2))
  proj_words zero (VInt x) wx n a' b1 kenv rest st rx h kst rs = stuck n a' _ h
  proj_words (suc i) (VInt x) wx n a' b1 kenv rest st rx h kst rs = stuck n a' _ h
  proj_words zero (VTup vs) wx n a' b1 kenv rest st rx h kst rs = stuck n a' _ h
  proj_words (suc i) (VTup vs) wx n a' b1 kenv rest st rx h kst rs =
      rw rx.1 (field_words i vs rx.0 n a' b1 kenv rest st rx.2 (value_at vs i) refl h kst rs)
  proj_words zero (VCell x) wx n a' b1 kenv rest st rx h kst rs = stuck n a' _ h
  proj_words (suc i) (VCell x) wx n a' b1 kenv rest st rx h kst rs = stuck n a' _ h
  proj_words zero (VFun env body) wx n a' b1 kenv rest st rx h kst rs = stuck n a' _ h
  proj_words (suc i) (VFun env body) wx n a' b1 kenv rest st rx h kst rs = stuck n a' _ h
  proj_words zero (VSus env body) wx n a' b1 kenv rest st rx h kst rs = stuck n a' _ h
  proj_words (suc i) (VSus env body) wx n a' b1 kenv rest st rx h kst rs = stuck n a' _ h

  held_words : (i : ℕ) (n a' b1 : ℕ) (kenv : KWords) (rest : KTm) (st : Vals) (o : Option Val) → value_at st i ≡ o →
      NextOf a' b1 kenv rest n (given o n st) → (kst : KWords) → RelAll st kst →
      Ends_as c O O n a' (λ j. with_value (M.given (held i kst) kst) (λ w s2. run j b1 (MoreWords w kenv) rest s2))
  held_words i n a' b1 kenv rest st None e h kst rs = stuck n a' _ h
  held_words i n a' b1 kenv rest st (Some v) e h kst rs =
      let w = held_of st kst i v rs e in
      rw w.1 (h (omega arith) w.0 w.2 kst rs)

  get_words : (v : Val) (wx : KWord) (n a' b1 : ℕ) (kenv : KWords) (rest : KTm) (st : Vals) → Rel v wx →
      NextOf a' b1 kenv rest n (fetch v n st) → (kst : KWords) → RelAll st kst →
      Ends_as c O O n a' (λ j. with_value (M.get wx kst) (λ w s2. run j b1 (MoreWords w kenv) rest s2))
  get_words (VInt x) wx n a' b1 kenv rest st rx h kst rs = stuck n a' _ h
  get_words (VTup vs) wx n a' b1 kenv rest st rx h kst rs = stuck n a' _ h
  get_words (VCell i) wx n a' b1 kenv rest st rx h kst rs =
      rw rx (held_words i n a' b1 kenv rest st (value_at st i) refl h kst rs)
  get_words (VFun env body) wx n a' b1 kenv rest st rx h kst rs = stuck n a' _ h
  get_words (VSus env body) wx n a' b1 kenv rest st rx h kst rs = stuck n a' _ h

  put_words : (i : ℕ) (w : Val) (wy : KWord) (n a' b1 : ℕ) (kenv : KWords) (rest : KTm) (st : Vals) → Rel w wy →
      (o : Option Val) →
      NextOf a' b1 kenv rest n (then_eval (given o n st) (λ old n1 s1. Gives (VTup Empty) n1 (E.hold i w s1))) →
      (kst : KWords) → RelAll st kst →
      Ends_as c O O n a' (λ j. run j b1 (MoreWords (WTuple NoWords) kenv) rest (hold i wy kst))
  put_words i w wy n a' b1 kenv rest st ry None h kst rs = stuck n a' _ h
  put_words i w wy n a' b1 kenv rest st ry (Some old) h kst rs =
      h (omega arith) (WTuple NoWords) (NoWords, refl, refl) (hold i wy kst) (rel_hold st kst i w wy rs ry)

  set_words : (v w : Val) (wx wy : KWord) (n a' b1 : ℕ) (kenv : KWords) (rest : KTm) (st : Vals) → Rel v wx →
      Rel w wy → NextOf a' b1 kenv rest n (assign v w n st) → (kst : KWords) → RelAll st kst →
      Ends_as c O O n a' (λ j. with_value (M.set wx wy kst) (λ z s2. run j b1 (MoreWords z kenv) rest s2))
  set_words (VInt x) w wx wy n a' b1 kenv rest st rx ry h kst rs = stuck n a' _ h
  set_words (VTup vs) w wx wy n a' b1 kenv rest st rx ry h kst rs = stuck n a' _ h
  set_words (VCell i) w wx wy n a' b1 kenv rest st rx ry h kst rs =
      rw rx (put_words i w wy n a' b1 kenv rest st ry (value_at st i) h kst rs)
  set_words (VFun env body) w wx wy n a' b1 kenv rest st rx ry h kst rs = stuck n a' _ h
  set_words (VSus env body) w wx wy n a' b1 kenv rest st rx ry h kst rs = stuck n a' _ h

  pub does_arith : (op : Op) (v w : Val) (n b a td : ℕ) (k : AnyRest) (kenv : KWords) (st : Vals) (av bv : Thing)
      (m : KTm) → Den av kenv v → Den bv kenv w → Ready c O a k kenv n (operate op v w n st) →
      two_form k (KArith op) av td (size kenv) bv m → Does c O a n b kenv st m
  does_arith op v w n b a td k kenv st av bv m da db h (x, y, rest, hx, hy, e, del) =
      subst (λ m. Does c O a n b kenv st m) (sym e) (record {
        does = λ kst rs u q.
            arith_words op v w _ _ n (a + u) _ kenv rest st (gives av kenv v da td kenv (ext_same kenv) b x hx)
            (gives bv kenv w db td kenv (ext_same kenv) (kv_next b x) y hy)
            (next_of n a _ td k kenv rest _ h del u (λ p s. q (omega (arith, p, le_v x b, le_v y (kv_next b x))) s))
            kst rs;
      })

  pub does_set : (v w : Val) (n b a td : ℕ) (k : AnyRest) (kenv : KWords) (st : Vals) (av bv : Thing) (m : KTm) →
      Den av kenv v → Den bv kenv w → Ready c O a k kenv n (assign v w n st) → two_form k KSet av td (size kenv) bv m →
      Does c O a n b kenv st m
  does_set v w n b a td k kenv st av bv m da db h (x, y, rest, hx, hy, e, del) =
      subst (λ m. Does c O a n b kenv st m) (sym e) (record {
        does = λ kst rs u q.
            set_words v w _ _ n (a + u) _ kenv rest st (gives av kenv v da td kenv (ext_same kenv) b x hx)
            (gives bv kenv w db td kenv (ext_same kenv) (kv_next b x) y hy)
            (next_of n a _ td k kenv rest _ h del u (λ p s. q (omega (arith, p, le_v x b, le_v y (kv_next b x))) s))
            kst rs;
      })

  pub does_proj : (i : ℕ) (v : Val) (n b a td : ℕ) (k : AnyRest) (kenv : KWords) (st : Vals) (ev : Thing) (m : KTm) →
      Den ev kenv v → Ready c O a k kenv n (project i v n st) → one_form k (λ ta v. KProj i v) td (size kenv) ev m →
      Does c O a n b kenv st m
  does_proj i v n b a td k kenv st ev m de h (x, rest, hx, e, del) =
      subst (λ m. Does c O a n b kenv st m) (sym e) (record {
        does = λ kst rs u q.
            proj_words i v _ n (a + u) _ kenv rest st (gives ev kenv v de td kenv (ext_same kenv) b x hx)
            (next_of n a _ td k kenv rest _ h del u (λ p s. q (omega (arith, p, le_v x b)) s)) kst rs;
      })

  pub does_get : (v : Val) (n b a td : ℕ) (k : AnyRest) (kenv : KWords) (st : Vals) (ev : Thing) (m : KTm) →
      Den ev kenv v → Ready c O a k kenv n (fetch v n st) → one_form k (λ ta v. KGet v) td (size kenv) ev m →
      Does c O a n b kenv st m
  does_get v n b a td k kenv st ev m de h (x, rest, hx, e, del) =
      subst (λ m. Does c O a n b kenv st m) (sym e) (record {
        does = λ kst rs u q.
            get_words v _ n (a + u) _ kenv rest st (gives ev kenv v de td kenv (ext_same kenv) b x hx)
            (next_of n a _ td k kenv rest _ h del u (λ p s. q (omega (arith, p, le_v x b)) s)) kst rs;
      })

  pub does_cell : (v : Val) (n b a td : ℕ) (k : AnyRest) (kenv : KWords) (st : Vals) (ev : Thing) (m : KTm) →
      Den ev kenv v → Ready c O a k kenv n (Gives (VCell (cells st)) n (E.one_more st v)) →
      one_form k (λ ta v. KCell v) td (size kenv) ev m → Does c O a n b kenv st m
  does_cell v n b a td k kenv st ev m de h (x, rest, hx, e, del) =
      subst (λ m. Does c O a n b kenv st m) (sym e) (record {
        does = λ kst rs u q.
            (let r = gives ev kenv v de td kenv (ext_same kenv) b x hx in
            next (VCell (cells st)) n a _ td (E.one_more st v) k kenv rest (h (omega arith)) del u
            (λ p s. q (omega (arith, p, le_v x b)) s) (WCell (size kst)) (ap WCell (rel_count st kst rs))
            (one_more kst (kv_value b x kenv)) (rel_last st kst v (kv_value b x kenv) rs r));
      })

  pub does_pack : (v : Val) (n b a td : ℕ) (k : AnyRest) (kenv : KWords) (st : Vals) (tl : List ℕ) (hid shape : Ty)
      (ev : Thing) (m : KTm) → Den ev kenv v → Good c O a k kenv v n st →
      one_form k (packing tl hid shape) td (size kenv) ev m → Does c O a n b kenv st m
  does_pack v n b a td k kenv st tl hid shape ev m de g (x, rest, hx, e, del) =
      subst (λ m. Does c O a n b kenv st m) (sym e) (record {
        does = λ kst rs u q.
            next v n a _ td st k kenv rest g del u (λ p s. q (omega (arith, p, le_v x b)) s) (kv_value b x kenv)
            (gives ev kenv v de td kenv (ext_same kenv) b x hx) kst rs;
      })

  -- what an open binds
  pub does_open : (v : Val) (n b a td : ℕ) (kenv : KWords) (st : Vals) (body : ℕ → ℕ → KTm → Type 0) (x : Thing)
      (m : KTm) → Den x kenv v →
      ((b : ℕ) (w : KWord) (m : KTm) → Rel v w → body td (size kenv) m → Does c O a n b (MoreWords w kenv) st m) →
      open_form body td (size kenv) x m → Does c O a n b kenv st m
  does_open v n b a td kenv st body x m d f (kv, rest, hv, e, h) =
      subst (λ m. Does c O a n b kenv st m) (sym e) (record {
        does = λ kst rs u q.
            (f (kv_next b kv) (kv_value b kv kenv) rest (gives x kenv v d td kenv (ext_same kenv) b kv hv) h).does
            kst rs u (λ p s. q (omega (arith, p, le_v kv b)) s);
      })

  -- what is bound by a let
  pub does_let : (v : Val) (n b a td : ℕ) (kenv : KWords) (st : Vals) (body : ℕ → ℕ → Atom → KTm → Type 0) (x : Thing)
      (m : KTm) → Den x kenv v →
      ((b : ℕ) (big : KWords) (y : Atom) (m : KTm) → Ext big kenv → DenAtom y big v → body td (size big) y m →
      Does c O a n b big st m) → let_form body td (size kenv) x m → Does c O a n b kenv st m
  does_let v n b a td kenv st body (Plain y) m d f h = f b kenv y m (ext_same kenv) d h
  does_let v n b a td kenv st body (Made values) m d f (kv, rest, hv, e, h) =
      let r = gives (Made values) kenv v d td kenv (ext_same kenv) b kv hv in
      subst (λ m. Does c O a n b kenv st m) (sym e)
      (does_name c O a n b kenv st kv rest
      (f (kv_next b kv) (MoreWords (kv_value b kv kenv) kenv) (Level (size kenv)) rest
      (ext_more _ _ _ (ext_same kenv)) (den_top kenv v (kv_value b kv kenv) r) h))

  -- several terms
  pub record GoodForms (a : ℕ) (form : Forms) (kenv : KWords) (vs : Vals) (n : ℕ) (st : Vals) : Type 1 where
    pub ready : (b td : ℕ) (big : KWords) (xs : Things) (m : KTm) → Ext big kenv → Dens xs big vs →
        form td (size big) xs m → Does c O a n b big st m

  abbrev pub ReadyAll : ℕ → Forms → KWords → ℕ → Results → Type 1
  ReadyAll a form kenv n (GiveAll vs m st) = m ≤ n → GoodForms a form kenv vs m st
  ReadyAll a form kenv n SpentAll = Is c O AtSpent
  ReadyAll a form kenv n StuckAll = Is c O AtStuck

  pub ready_then_all : (a : ℕ) (form : Forms) (k' : AnyRest) (kenv kenv' : KWords) (n : ℕ) (r : Result)
      (go : Val → ℕ → Vals → Results) → ReadyAll a form kenv n (then_all r go) →
      ((v : Val) (m : ℕ) (st : Vals) → m ≤ n → ReadyAll a form kenv n (go v m st) → Good c O a k' kenv' v m st) →
      Ready c O a k' kenv' n r
  ready_then_all a form k' kenv kenv' n (Gives v m st) go h f = λ le. f v m st le h
  ready_then_all a form k' kenv kenv' n Spent go h f = h
  ready_then_all a form k' kenv kenv' n Stuck go h f = h

  pub ready_rest : (a : ℕ) (form : Forms) (kenv big : KWords) (n n' : ℕ) (v : Val) (x : Thing) (r : Results) → n' ≤ n →
      Ext big kenv → Den x big v → ReadyAll a form kenv n (all_then r (λ vs n2 s2. GiveAll (And v vs) n2 s2)) →
      ReadyAll a (λ ta d xs m. form ta d (MoreThings x xs) m) big n' r
  ready_rest a form kenv big n n' v x (GiveAll vs m st) le e d h =
      λ le'. record {
        ready = λ b td more xs t e' ds f. (h (omega (arith, le, le'))).ready b td more
            (MoreThings x xs) t (ext_trans more big kenv e' e) (den_more x more big v e' d, ds) f;
      }
  ready_rest a form kenv big n n' v x SpentAll le e d h = h
  ready_rest a form kenv big n n' v x StuckAll le e d h = h

  pub ready_tuple : (a : ℕ) (k : AnyRest) (kenv : KWords) (n : ℕ) (r : Results) → Ready c O a k kenv n (as_tuple r) →
      ReadyAll a (λ ta d xs m. deliver k ta d (tuple_of xs) m) kenv n r
  ready_tuple a k kenv n (GiveAll vs m st) h =
      λ le. record {
        ready = λ b td big xs t e ds f. good_deliver c O a k big (VTup vs) m st b td (tuple_of xs) t
            (good_more c O a k big kenv (VTup vs) m st e (h le)) (den_tuple xs big vs ds) f;
      }
  ready_tuple a k kenv n SpentAll h = h
  ready_tuple a k kenv n StuckAll h = h

  -- a choice
  pub if_words : (v : Val) (wx : KWord) (n a a' b1 b2 : ℕ) (k : AnyRest) (kenv : KWords) (ra rb : Result) (ma mb : KTm)
      (kst : KWords) → Rel v wx → Ready c O a k kenv n (choose v ra rb) →
      (Ready c O a k kenv n ra → Ends_as c O O n a' (λ j. run j b1 kenv ma kst)) →
      (Ready c O a k kenv n rb → Ends_as c O O n a' (λ j. run j b2 kenv mb kst)) →
      Ends_as c O O n a' (λ j. at_zero wx (run j b1 kenv ma kst) (run j b2 kenv mb kst))
  if_words (VInt i) wx n a a' b1 b2 k kenv ra rb ma mb kst rx h f g = rw rx (picked (is_zero i) h)
    where
      picked : (z : Bool) → Ready c O a k kenv n (cond z ra rb) →
          Ends_as c O O n a' (λ j. B.pick z (run j b1 kenv ma kst) (run j b2 kenv mb kst))
      picked true h = f h
      picked false h = g h
  if_words (VTup vs) wx n a a' b1 b2 k kenv ra rb ma mb kst rx h f g = is_stuck c O n a' _ h
  if_words (VCell i) wx n a a' b1 b2 k kenv ra rb ma mb kst rx h f g = is_stuck c O n a' _ h
  if_words (VFun env body) wx n a a' b1 b2 k kenv ra rb ma mb kst rx h f g = is_stuck c O n a' _ h
  if_words (VSus env body) wx n a a' b1 b2 k kenv ra rb ma mb kst rx h f g = is_stuck c O n a' _ h
