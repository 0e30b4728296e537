-- What a hoisted program does. Types are not used.
use Rattle.std.specs.Prelude.{ℕ, zero, suc, nat_eq, Option, Some, None}
use Rattle.calc_core.specs.Ends.{Result, Spent, Stuck, enters, if_fits, stops}
use Rattle.calc_core.specs.Words.{Word, WInt, WTuple, WCode, Words, NoWords, MoreWords, at, size, onto}
use Rattle.calc_core.specs.Words.{Made, with_value, at_zero, halt_with}
use Rattle.calc_core.specs.Meaning.{declared}
use Rattle.c_terms.specs.C.{ccount}
use Rattle.h_terms.specs.H.{HApply, HBlk, HBlks, HCall, HDecl, HHalt, HIf, HInt, HLabel, HLet}
use Rattle.h_terms.specs.H.{HPack, HTm, HTuple, HVal, HVals, HVar, MoreHVals, NoHVals}
use Rattle.h_terms.specs.H.{block_at}

-- values, whose codes are labels
abbrev pub HWord : Type 0
HWord = Word ℕ

abbrev pub HWords : Type 0
HWords = Words ℕ

-- what a value stands for
abbrev mutual
  pub hv_value : HVal → HWords → HWord
  hv_value (HVar i) env = at env i
  hv_value (HInt n) env = WInt n
  hv_value (HLabel l) env = WCode l NoWords
  hv_value (HTuple vs) env = WTuple (hvs_value vs env)
  hv_value (HApply v ts) env = hv_value v env
  hv_value (HPack h v s) env = hv_value v env

  pub hvs_value : HVals → HWords → HWords
  hvs_value NoHVals env = NoWords
  hvs_value (MoreHVals v vs) env = MoreWords (hv_value v env) (hvs_value vs env)

-- what a declaration names, and the store then
abbrev pub hd_value : HDecl → HWords → HWords → Made ℕ
hd_value d env st = declared (λ v. hv_value v env) (λ v w. hv_value w env) d st

-- how a body is entered
abbrev pub HEnter : Type 0
HEnter = ℕ → HTm → HWords → HWords → Result

-- the block of a label
abbrev pub with_block : Option HBlk → (HBlk → Result) → Result
with_block None go = stops Stuck
with_block (Some k) go = go k

-- a call: of a label, with as many values as its block takes
abbrev pub hopen : HBlks → HEnter → HWord → HWords → HWords → Result
hopen ks enter (WCode l env) vs st =
    with_block (block_at ks l)
    (λ k. if_fits (nat_eq (size vs) (ccount k.args)) (enter l k.body (onto vs NoWords) st))
hopen ks enter _ vs st = stops Stuck

-- what a term does
abbrev pub hterm : HBlks → HEnter → HTm → HWords → HWords → Result
hterm ks enter (HLet d t) env st = with_value (hd_value d env st) (λ v st2. hterm ks enter t (MoreWords v env) st2)
hterm ks enter (HCall f ts vs) env st = hopen ks enter (hv_value f env) (hvs_value vs env) st
hterm ks enter (HIf v t u) env st = at_zero (hv_value v env) (hterm ks enter t env st) (hterm ks enter u env st)
hterm ks enter (HHalt v) env st = halt_with (hv_value v env)

-- a body is entered while calls are left
abbrev pub henter : HBlks → ℕ → HEnter
henter ks zero l body env st = stops Spent
henter ks (suc n) l body env st = enters l (hterm ks (henter ks n) body env st)

-- a whole program within n calls
abbrev pub hrun : ℕ → HBlks → HTm → Result
hrun n ks t = hterm ks (henter ks n) t NoWords NoWords
