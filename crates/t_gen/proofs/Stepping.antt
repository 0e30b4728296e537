-- What one node does.
use Rattle.std.proofs.Common.{◌≡◌, ℕ, suc, ◌+◌, ◌-◌, ◌≤◌, ◌++◌, List, [], ◌∷◌, length, take, true, refl, sym, ap, ap₂}
use Rattle.std.proofs.Common.{◌∙◌, subst, arith, length-append}
use Rattle.std.proofs.lemmas.List.{take_all}
use Rattle.idx_core.specs.declared.span.Span.{Span}
use Rattle.t_terms.specs.Tree.{TSeq, TBlock}
use Rattle.t_terms.specs.Read.{blocks_of}
use Rattle.t_terms.specs.declared.block.Block.{Block}
use Rattle.t_terms.specs.declared.instr.Instr.{Instr}
use Rattle.t_terms.proofs.Blocks.{blocks_count}
use Rattle.t_emit.specs.Code.{onto}
use Rattle.t_gen.specs.Filling.{Job, finish, finish_from}
use Rattle.t_emit.specs.Code.{fill, reserved}
use Rattle.t_gen.proofs.Filled.{let_step, if0_step, fill_length}
use Rattle.t_gen_rules.specs.Gen.{used, over, target, decl_code, test_code, code, header}
use Rattle.a_terms.specs.Tree as a
use Rattle.a_terms.specs.Typing.{declared, more_vars}
use Rattle.calc_core.specs.Row.{top, others}
use Rattle.a_terms.specs.NodeTrees.{no_term, a_values, a_let, a_decl, a_build, is_decl}
use Rattle.a_terms.specs.Arity.{a_kids}
use Rattle.a_terms.specs.declared.nodes.AValue.{AValue}
use Rattle.a_terms.specs.declared.nodes.AForm.{AForm}
use Rattle.a_terms.specs.declared.nodes.AForm.TheVariants.{Value, Proj, Arith, Unpack, Malloc, Init, Call, If0, Halt}
use Rattle.a_scope.specs.Scope.{scope, homes, Under}
use Rattle.a_scope.specs.declared.scope.Entry.{Entry}
use Rattle.a_scope.proofs.Scopes.{homes_snoc}
use Rattle.t_gen.specs.Uses.{Tells, Ending}
use Rattle.t_gen.specs.declared.told.Ahead.{Ahead}
use Rattle.t_gen.specs.declared.state.Place.{Place}
use Rattle.t_gen.specs.Pending.{tops, job, jobs_at, pend, Fit, KeepsAll, Stepped}
use Rattle.t_gen.specs.Keeps.{Keeps}
use Rattle.t_gen.proofs.Keeping.{tops_push, jobs_keep, fit_keep, keeps_keep, fit_more, from_same, pend_finish}
use Rattle.t_gen.proofs.Keeping.{under_push}
use Rattle.a_terms.proofs.Weighed.{length_values}

more_names : (x : a.ADecl) (k : ℕ) → k ≤ more_vars x k
more_names (a.Value v) k = omega arith
more_names (a.Proj i v) k = omega arith
more_names (a.Arith o v w) k = omega arith
more_names (a.Unpack v) k = omega arith
more_names (a.Malloc ts) k = omega arith
more_names (a.Init v i w) k = omega arith

-- a declaration
module _ (prog : a.AProg) (p q : Place) (x : a.ADecl) (ts : List a.ATm) (es fs : List Entry) (e : Entry)
    (ps qs : List Place) (o : List Block) (c d : List (Instr × Span))
    (count : p.vars ≡ length es) (made : fs ≡ es ++ e ∷ []) (names : e.names ≤ more_vars x p.names)
    (is_scope : scope (more_vars x p.names) fs ≡ declared prog (scope p.names es) x)
    (at_home : e.register ≡ target (homes es) x (top no_term ts))
    (codes : (rest : TSeq) →
    onto d rest ≡ onto c
    (decl_code (over (homes es) (used (a.Let x (top no_term ts)))) (homes es)
    (target (homes es) x (top no_term ts)) x rest)) (pushed : qs ≡ ps ++ q ∷ []) (same_block : q.block ≡ p.block)
    (same_names : q.names ≡ more_vars x p.names) (all : q.vars ≡ length fs)
    (f : Fit (length (blocks_of o)) es (length es) (p ∷ tops ps)) (keeps : KeepsAll es (p ∷ tops ps) (a_let x ts))
    (next : Keeps q.registers (target (homes es) x (top no_term ts) ∷ homes es) (used (top no_term ts))) where
  abbrev out : List TBlock
  out = blocks_of o

  whole_es : take p.vars es ≡ es
  whole_es = take_all p.vars es (omega (arith, count))

  whole_fs : take q.vars fs ≡ fs
  whole_fs = take_all q.vars fs (omega (arith, all))

  is_tops : tops qs ≡ q ∷ tops ps
  is_tops = ap tops pushed ∙ tops_push ps q

  kept : (ts : List a.ATm) → jobs_at fs (tops ps) ts ≡ jobs_at es (tops ps) ts
  kept ts = ap (λ xs. jobs_at xs (tops ps) ts) made
      ∙ jobs_keep (length out) p.vars es (e ∷ []) (tops ps) ts f.3 (omega (arith, count))

  is_homes : homes fs ≡ target (homes es) x (top no_term ts) ∷ homes es
  is_homes = ap homes made ∙ homes_snoc es e ∙ ap (λ q. q ∷ homes es) at_home

  next_job : (t : a.ATm) →
      job fs q t ≡ record {
        block = p.block;
        names = more_vars x p.names;
        places = target (homes es) x (top no_term ts) ∷ homes es;
        vars = declared prog (scope p.names es) x;
        term = t;
      }
  next_job t =
      ap₂ (λ n k. record {
        block = n;
        names = k;
        places = homes (take q.vars fs);
        vars = scope k (take q.vars fs);
        term = t;
      }) same_block same_names
      ∙ ap₂ (λ m g. record { block = p.block; names = more_vars x p.names; places = m; vars = g; term = t })
      (ap homes whole_fs ∙ is_homes) (ap (scope (more_vars x p.names)) whole_fs ∙ is_scope)

  walked_let : pend prog fs out (onto d) (tops qs) ts ≡ pend prog es out (onto c) (p ∷ tops ps) (a_let x ts)
  walked_let =
      let g = scope p.names es in
      let m = homes es in
      let t = top no_term ts in
      let js = jobs_at es (tops ps) (others ts) in
      ap (λ ks. pend prog fs out (onto d) ks ts) is_tops
      ∙ ap₂ (λ j ks. finish_from prog (length out) out (onto d) j ks) (next_job t) (kept (others ts))
      ∙ from_same prog (length out) out (onto d)
      (λ rest. onto c (decl_code (over m (used (a.Let x t))) m (target m x t) x rest))
      (record {
        block = p.block;
        names = more_vars x p.names;
        places = target m x t ∷ m;
        vars = declared prog g x;
        term = t;
      }) js codes
      ∙ sym (let_step prog (length out) out (onto c) p.block p.names m g x t js)
      ∙ ap (λ xs. finish_from prog (length out) out (onto c)
      (record { block = p.block; names = p.names; places = homes xs; vars = scope p.names xs; term = a.Let x t })
      js) (sym whole_es)

  longer : length es ≤ length fs
  longer = omega (arith, ap length made, length-append es (e ∷ []))

  fit_let : Fit (length out) fs (length fs) (tops qs)
  fit_let =
      let u = under_push p.names (more_vars x p.names) es e (subst (Under p.names) whole_es f.2)
      (more_names x p.names) names in
      subst (Fit (length out) fs (length fs)) (sym is_tops) (
        omega (arith, f.0, same_block),
        omega (arith, all),
        subst (λ k. Under k (take q.vars fs)) (sym same_names)
            (subst (Under (more_vars x p.names)) (sym (whole_fs ∙ made)) u),
        subst (λ xs. Fit (length out) xs q.vars (tops ps)) (sym made)
            (fit_keep (length out) (length out) p.vars q.vars es (e ∷ []) (tops ps) f.3 (omega (arith, count))
            (omega arith) (omega (arith, all, longer, count))),
      )

  keeps_let : KeepsAll fs (tops qs) ts
  keeps_let = subst (λ ks. KeepsAll fs ks ts) (sym is_tops) (
    subst (λ m. Keeps q.registers m (used (top no_term ts))) (sym (ap homes whole_fs ∙ is_homes)) next,
    subst (λ xs. KeepsAll xs (tops ps) (others ts)) (sym made)
        (keeps_keep (length out) p.vars es (e ∷ []) (tops ps) (others ts) f.3 (omega (arith, count)) keeps.1),
  )

  pub let_stepped : Stepped prog p ts (a_let x) 1 es fs ps qs o o c d
  let_stepped = record {
    walked = walked_let;
    fit = fit_let;
    count = ap length pushed ∙ length-append ps (q ∷ []) ∙ omega arith;
    keeps = keeps_let;
  }

-- an end: the block is whole
pub end_stepped : (prog : a.AProg) (p : Place) (t : a.ATm) (ts : List a.ATm) (es : List Entry) (ps : List Place)
    (o n : List Block) (c d : List (Instr × Span)) →
    p.vars ≡ length es → d ≡ [] →
    blocks_of n ≡ fill p.block (onto c (code p.names (homes es) (length (blocks_of o)) t)) (blocks_of o) →
    Fit (length (blocks_of o)) es (length es) (p ∷ tops ps) →
    ((out : List TBlock) (at : ℕ) (k : ℕ) (m : List ℕ) (g : List a.ATy) (js : List Job) →
    finish_from prog at out (onto c) (record { block = p.block; names = k; places = m; vars = g; term = t }) js
    ≡ finish prog at (fill p.block (onto c (code k m at t)) out) js) →
    KeepsAll es (p ∷ tops ps) (t ∷ ts) → Stepped prog p ts (λ ts. t ∷ ts) 0 es es ps ps o n c d
end_stepped prog p t ts es ps o n c d count none filled f step keeps =
    let out = blocks_of o in
    let at = length out in
    let whole_es : take p.vars es ≡ es = take_all p.vars es (omega (arith, count)) in
    let g = scope p.names es in
    let m = homes es in
    let long : length (blocks_of n) ≡ at = ap length filled ∙ fill_length p.block (onto c (code p.names m at t)) out in
    record {
      walked =
          ap (λ x. pend prog es (blocks_of n) (onto x) (tops ps) ts) none
          ∙ pend_finish prog es (blocks_of n) (tops ps) ts
          ∙ ap₂ (λ i xs. finish prog i xs (jobs_at es (tops ps) ts)) long filled
          ∙ sym (step out at p.names m g (jobs_at es (tops ps) ts))
          ∙ ap (λ xs. finish_from prog at out (onto c)
          (record { block = p.block; names = p.names; places = homes xs; vars = scope p.names xs; term = t })
          (jobs_at es (tops ps) ts)) (sym whole_es);
      fit = fit_more at (length (blocks_of n)) p.vars (length es) es (tops ps) f.3 (omega (arith, long))
          (omega (arith, count));
      count = refl;
      keeps = keeps.1;
    }

-- a branch: the first place is now s, and q waits below it
module _ (prog : a.AProg) (p q s : Place) (v : a.AVal) (ts : List a.ATm) (es : List Entry) (ps qs : List Place)
    (o n : List Block) (c d : List (Instr × Span))
    (count : p.vars ≡ length es) (qb : q.block ≡ length o) (qn : q.names ≡ p.names) (qv : q.vars ≡ p.vars)
    (sb : s.block ≡ p.block) (sn : s.names ≡ p.names) (sv : s.vars ≡ p.vars) (pushed : qs ≡ (ps ++ q ∷ []) ++ s ∷ [])
    (codes : (rest : TSeq) →
    onto d rest ≡ onto c
    (test_code (over (homes es) (used (a.If0 v (top no_term ts) (top no_term (others ts))))) p.names (homes es) v
    (length o) rest))
    (more : blocks_of n ≡ blocks_of o
    ++ reserved p.names (header (used (top no_term (others ts))) (homes es) (scope p.names es)) ∷ [])
    (f : Fit (length (blocks_of o)) es (length es) (p ∷ tops ps))
    (keeps : KeepsAll es (p ∷ tops ps) (a.If0 v (top no_term ts) (top no_term (others ts)) ∷ others (others ts)))
    (second : Keeps s.registers (homes es) (used (top no_term ts)))
    (third : Keeps q.registers (homes es) (used (top no_term (others ts)))) where
  abbrev at : ℕ
  at = length (blocks_of o)

  ob : length o ≡ at
  ob = sym (blocks_count o)

  if_tops : tops qs ≡ s ∷ q ∷ tops ps
  if_tops = ap tops pushed ∙ tops_push (ps ++ q ∷ []) s ∙ ap (λ ks. s ∷ ks) (tops_push ps q)

  long : length (blocks_of n) ≡ suc at
  long = ap length more
      ∙ length-append (blocks_of o)
      (reserved p.names (header (used (top no_term (others ts))) (homes es) (scope p.names es)) ∷ []) ∙ omega arith

  whole_at : (w : ℕ) → w ≡ p.vars → take w es ≡ es
  whole_at w e = take_all w es (omega (arith, count, e))

  is_job : (k : Place) (b : ℕ) (t : a.ATm) → k.block ≡ b → k.names ≡ p.names → k.vars ≡ p.vars →
      job es k t ≡ record { block = b; names = p.names; places = homes es; vars = scope p.names es; term = t }
  is_job k b t kb kn kv =
      ap₂ (λ x y. record {
        block = x;
        names = y;
        places = homes (take k.vars es);
        vars = scope y (take k.vars es);
        term = t;
      }) kb kn
      ∙ ap (λ xs. record { block = b; names = p.names; places = homes xs; vars = scope p.names xs; term = t })
      (whole_at k.vars kv)

  walked_if : pend prog es (blocks_of n) (onto d) (tops qs) ts ≡ pend prog es (blocks_of o) (onto c) (p ∷ tops ps)
      (a.If0 v (top no_term ts) (top no_term (others ts)) ∷ others (others ts))
  walked_if =
      let out = blocks_of o in
      let g = scope p.names es in
      let m = homes es in
      let t = top no_term ts in
      let u = top no_term (others ts) in
      let js = jobs_at es (tops ps) (others (others ts)) in
      let over_all = over m (used (a.If0 v t u)) in
      let there = reserved p.names (header (used u) m g) in
      ap (λ ks. pend prog es (blocks_of n) (onto d) ks ts) if_tops
      ∙ ap₂ (λ j k. finish_from prog (length (blocks_of n)) (blocks_of n) (onto d) j (k ∷ js))
      (is_job s p.block t sb sn sv) (is_job q at u (qb ∙ ob) qn qv)
      ∙ ap₂ (λ i xs. finish_from prog i xs (onto d)
      (record { block = p.block; names = p.names; places = m; vars = g; term = t })
      (record { block = at; names = p.names; places = m; vars = g; term = u } ∷ js)) long more
      ∙ from_same prog (suc at) (out ++ there ∷ []) (onto d) (λ rest. onto c (test_code over_all p.names m v at rest))
      (record { block = p.block; names = p.names; places = m; vars = g; term = t })
      (record { block = at; names = p.names; places = m; vars = g; term = u } ∷ js)
      (λ rest. codes rest ∙ ap (λ i. onto c (test_code over_all p.names m v i rest)) ob)
      ∙ sym (if0_step prog at out (onto c) p.block p.names m g v t u js f.0 refl)
      ∙ ap (λ j. finish_from prog at out (onto c) j js) (sym (is_job p p.block (a.If0 v t u) refl refl refl))

  fit_if : Fit (length (blocks_of n)) es (length es) (tops qs)
  fit_if =
      let under : (k : ℕ) (w : ℕ) → k ≡ p.names → w ≡ p.vars → Under k (take w es) =
      λ k w e h. subst (λ x. Under x (take w es)) (sym e) (subst (λ x. Under p.names (take x es)) (sym h) f.2) in
      subst (Fit (length (blocks_of n)) es (length es)) (sym if_tops) (
        omega (arith, f.0, long, sb),
        omega (arith, f.1, sv),
        under s.names s.vars sn sv,
        (
          omega (arith, qb, ob, long),
          omega (arith, qv, sv),
          under q.names q.vars qn qv,
          fit_more at (length (blocks_of n)) p.vars q.vars es (tops ps) f.3 (omega (arith, long)) (omega (arith, qv)),
        ),
      )

  keeps_if : KeepsAll es (tops qs) ts
  keeps_if = subst (λ ks. KeepsAll es ks ts) (sym if_tops) (
    subst (λ xs. Keeps s.registers (homes xs) (used (top no_term ts))) (sym (whole_at s.vars sv)) second,
    (
      subst (λ xs. Keeps q.registers (homes xs) (used (top no_term (others ts)))) (sym (whole_at q.vars qv)) third,
      keeps.1,
    ),
  )

  pub if_stepped : Stepped prog p ts (λ ts. a.If0 v (top no_term ts) (top no_term (others ts)) ∷ others (others ts)) 2
      es es ps qs o n c d
  if_stepped = record {
    walked = walked_if;
    fit = fit_if;
    count = ap length pushed ∙ length-append (ps ++ q ∷ []) (s ∷ []) ∙ ap (λ i. i + 1) (length-append ps (q ∷ []))
        ∙ omega arith;
    keeps = keeps_if;
  }

-- the registers of the first place
pub keeps_first : (p : Place) (ps : List Place) (es : List Entry) (t : a.ATm) (ts : List a.ATm) → p.vars ≡ length es →
    KeepsAll es (p ∷ ps) (t ∷ ts) → Keeps p.registers (homes es) (used t)
keeps_first p ps es t ts count k =
    subst (λ (xs : List Entry). Keeps p.registers (homes xs) (used t)) (take_all p.vars es (omega (arith, count))) k.0

-- the arguments of a call are all values but the first
pub length_arguments : (vs : List AValue) → length (others (a_values vs)) ≡ length vs - 1
length_arguments [] = refl
length_arguments (v ∷ vs) = length_values vs ∙ omega arith

-- forms
pub build_decl : (f : AForm) (vs : List a.AVal) → is_decl f ≡ true → (a_build f vs ≡ a_let (a_decl f vs))
    × (a_kids f ≡ 1)
build_decl Value vs e = (refl, refl)
build_decl (Proj i) vs e = (refl, refl)
build_decl (Arith o) vs e = (refl, refl)
build_decl Unpack vs e = (refl, refl)
build_decl (Malloc us) vs e = (refl, refl)
build_decl (Init i) vs e = (refl, refl)
build_decl (Call us) vs e = cc
build_decl If0 vs e = cc
build_decl Halt vs e = cc

pub stepped_as : {prog : a.AProg} {p : Place} {ts : List a.ATm} {b1 b2 : List a.ATm → List a.ATm} {k1 k2 : ℕ}
    {es fs : List Entry} {ps qs : List Place} {o n : List Block} {c d : List (Instr × Span)} →
    b2 ≡ b1 → k2 ≡ k1 → Stepped prog p ts b1 k1 es fs ps qs o n c d → Stepped prog p ts b2 k2 es fs ps qs o n c d
stepped_as {prog} {p} {ts} {b1} {b2} {k1} {k2} {es} {fs} {ps} {qs} {o} {n} {c} {d} e f h =
    subst (λ k. Stepped prog p ts b2 k es fs ps qs o n c d) (sym f)
    (subst (λ b. Stepped prog p ts b k1 es fs ps qs o n c d) (sym e) h)

pub keeps_as : (es : List Entry) (p : Place) (ps : List Place) (ts : List a.ATm) {b1 b2 : List a.ATm → List a.ATm} →
    b2 ≡ b1 → KeepsAll es (p ∷ tops ps) (b2 ts) → KeepsAll es (p ∷ tops ps) (b1 ts)
keeps_as es p ps ts e k = subst (λ b. KeepsAll es (p ∷ tops ps) (b ts)) e k

-- what is told of a declaration
pub told_ending : (f : AForm) (vs : List a.AVal) (ts : List a.ATm) (w : Ahead) → is_decl f ≡ true → Tells f vs ts w →
    Ending (a_decl f vs) (top no_term ts) w
told_ending Value vs ts w e h = h
told_ending (Proj i) vs ts w e h = h
told_ending (Arith o) vs ts w e h = h
told_ending Unpack vs ts w e h = h
told_ending (Malloc us) vs ts w e h = h
told_ending (Init i) vs ts w e h = h
told_ending (Call us) vs ts w e h = cc
told_ending If0 vs ts w e h = cc
told_ending Halt vs ts w e h = cc
