-- What is known of a guest by the calls on it.
use Rattle.std.proofs.Common.{◌≡◌, ◌↔◌, ℕ, ◌+◌, ◌≤◌, max, min, List, Some, None, Result, OnOk, OnErr, IsErr}
use Rattle.std.proofs.Common.{sym, ap, ◌∙◌, subst, inl, inr}
use Rattle.std.proofs.lemmas.Option.{none-some, same_Some}
use Rattle.t_terms.specs.Tree.{TProg}
use Rattle.t_terms.specs.Whole.{WellFormedProgram}
use Rattle.t_rules.specs.Rules.{Accepted}
use Rattle.t_machine.specs.declared.machine.Machine.{Machine}
use Rattle.t_machine.specs.declared.machine.Ran.{Ran}
use Rattle.idx_core.specs.declared.memory.OutOfMemory.{OutOfMemory}
use Rattle.t_machine.specs.Runs.{Stands, RanFrom, steps_made}
use Rattle.t_machine.specs.Room.{spare_tuples, spare_fields, Lowers, LowersAlong, WantsUncovered}
use Rattle.t_machine.specs.Room.{kept_tuples, kept_fields, most_tuples, most_fields, KeepsWithin, StaysSpare}
use Rattle.t_machine.specs.Numbers.{IsCountedOut}
use Rattle.t_machine.specs.Collected.{Unmoved}
use Rattle.t_machine.specs.Reachable.{KeepsReached, StopsReached}
use Rattle.tal_c.specs.declared.answer.Answer.{Answer}
use Rattle.tal_c.specs.declared.guest.Guest.{Guest}
use Rattle.tal_c.specs.Answers.{bare, done, usage, of_run, of_taken}
use Rattle.tal_c.specs.Texts.{IsLoaded, FaultTold}
use Rattle.tal_c.specs.Guests.{empty, Has, IsAt, LoadTold, RunsOn, GuestRun, NotRun, Stays}
use Rattle.tal_c.specs.Guests.{StaysWithin, GuestReserve, GuestCollect, GuestWithin}

-- a guest with a machine is not the empty one
not_empty : (guest : Guest) (machine : Machine) → guest.machine ≡ Some machine → guest ≡ empty → ⊥
not_empty guest machine has is = none-some machine (sym (ap (λ (g : Guest). g.machine) is) ∙ has)

pub load_told : (text : List ℕ) (new : Guest) (machine : Machine) (answer : Answer) → IsLoaded text machine →
    new.machine ≡ Some machine → answer ≡ bare done → LoadTold text new answer
load_told text new machine answer l has is = inl (record {
  program = l.program;
  accepted = l.accepted;
  at_start = record {
    machine = machine;
    has = has;
    whole = l.whole;
    accepted = l.accepted.1;
    stands = l.stands;
  };
  uncapped = l.uncapped;
  is = is;
})

pub not_loaded : (text : List ℕ) (new : Guest) (answer : Answer) → FaultTold text answer → new ≡ empty →
    LoadTold text new answer
not_loaded text new answer told is = inr (told, is)

-- the machine of a guest is one
one : (guest : Guest) (x y : Machine) → Has guest x → Has guest y → x ≡ y
one guest x y is was = same_Some x y (sym is ∙ was)

-- of a guest with a machine nothing is said of the empty one
had_one : {B : Type 0} (old : Guest) (x : Machine) → Has old x → old ≡ empty → B
had_one old x has e = absurd (not_empty old x has e)

-- nor of a machine of the empty one
has_none : {B : Type 0} (old : Guest) (x : Machine) → old.machine ≡ None → Has old x → B
has_none old x none has = absurd (none-some x (sym none ∙ has))

-- what may be kept stays, whichever the machines are called
stays_within : (old new : Guest) (before after x y : Machine) → Has old before → Has old x → Has new after →
    Has new y → StaysWithin before after → StaysWithin x y
stays_within old new before after x y had is_x has is_y within =
    subst (λ (z : Machine). StaysWithin z y) (one old before x had is_x)
    (subst (StaysWithin before) (one new after y has is_y) within)

-- from the machine before the run to the one after it
module _ (fuel : ℕ) (old new : Guest) (before after : Machine) (ran : Ran) (answer : Answer)
    (had : Has old before) (has : Has new after) (is : answer ≡ of_run fuel ran)
    (stands : (P : TProg) → WellFormedProgram P → Accepted P → (m : ℕ) → Stands P m before →
    Stands P (m + steps_made fuel ran) after)
    (runs : (P : TProg) → WellFormedProgram P → Accepted P → (m : ℕ) → Stands P m before → RanFrom P m fuel ran)
    (lowers : (P : TProg) → WellFormedProgram P → Accepted P → (m : ℕ) → Stands P m before →
    LowersAlong P m (steps_made fuel ran) before after)
    (wants : (P : TProg) → WellFormedProgram P → Accepted P → (m : ℕ) → Stands P m before → WantsUncovered P m before
    ran)
    (reached : (P : TProg) → WellFormedProgram P → Accepted P → (m : ℕ) → Stands P m before → StopsReached after ran)
    (within : StaysWithin before after) where
  ran_on : (P : TProg) (n : ℕ) → IsAt P n old → RunsOn P n fuel old new answer
  ran_on P n a =
      let same : a.machine ≡ before = one old a.machine before a.has had in
      let at : Stands P n before = subst (Stands P n) same a.stands in
      record {
        ran = ran;
        run = runs P a.whole a.accepted n at;
        stands = record {
          machine = after;
          has = has;
          whole = a.whole;
          accepted = a.accepted;
          stands = stands P a.whole a.accepted n at;
        };
        spare = λ x y is_x is_y. subst (λ (z : Machine). LowersAlong P n (steps_made fuel ran) z y)
            (one old before x had is_x) (subst (LowersAlong P n (steps_made fuel ran) before)
            (one new after y has is_y) (lowers P a.whole a.accepted n at));
        covered = λ x is_x. subst (λ (z : Machine). WantsUncovered P n z ran) (one old before x had is_x)
            (wants P a.whole a.accepted n at);
        reached = λ y is_y. subst (λ (z : Machine). StopsReached z ran) (one new after y has is_y)
            (reached P a.whole a.accepted n at);
        within = λ x y is_x is_y. stays_within old new before after x y had is_x has is_y within;
        is = is;
      }

  pub guest_run : GuestRun fuel old new answer
  guest_run = (had_one old before had, ran_on)

not_run : (old new : Guest) (answer : Answer) → new ≡ old → answer ≡ bare usage → NotRun old new answer
not_run old new answer same is e = (same ∙ e, is)

pub empty_run : (fuel : ℕ) (old new : Guest) (answer : Answer) → old.machine ≡ None → new ≡ old →
    answer ≡ bare usage → GuestRun fuel old new answer
empty_run fuel old new answer none same is =
    (not_run old new answer same is, (λ P n a. has_none old a.machine none a.has))

-- from the machine before to one that stands for the same states
stays : (old new : Guest) (before after : Machine) → Has old before → Has new after →
    ((P : TProg) (m : ℕ) → Stands P m before → Stands P m after) → Stays old new
stays old new before after had has stands P n a = record {
  machine = after;
  has = has;
  whole = a.whole;
  accepted = a.accepted;
  stands = stands P n (subst (Stands P n) (one old a.machine before a.has had) a.stands);
}

-- from the machine before to the one after memory was taken, or tuples were dropped
module _ (old new : Guest) (before after : Machine) (taken : Result (Unit {0}) OutOfMemory) (answer : Answer)
    (had : Has old before) (has : Has new after) (is : answer ≡ of_taken taken)
    (stands : (P : TProg) (m : ℕ) → Stands P m before → Stands P m after) (kept : Lowers 0 0 before after)
    (within : StaysWithin before after) where
  lowered : (x : Machine) → Has old x → Lowers 0 0 x after
  lowered x is_x = subst (λ (z : Machine). Lowers 0 0 z after) (one old before x had is_x) kept

  pub guest_reserve : (tuples fields : ℕ) →
      OnOk taken ((tuples ≤ spare_tuples after) × (fields ≤ spare_fields after)) →
      GuestReserve tuples fields old new answer
  guest_reserve tuples fields spare = (
    had_one old before had,
    (λ x is_x. record {
      after = after;
      taken = taken;
      has = has;
      stays = stays old new before after had has stands;
      kept = lowered x is_x;
      within = stays_within old new before after x after had is_x has has within;
      spare = spare;
      is = is;
    }),
  )

  pub guest_collect : OnOk taken (KeepsReached before after) → (IsErr taken ↔ IsCountedOut before.heap) →
      OnErr taken (Unmoved before.heap before.registers.items after.heap after.registers.items) →
      GuestCollect old new answer
  guest_collect exactly counted unmoved = (
    had_one old before had,
    (λ x is_x.
        let same = one old before x had is_x in
        record {
          after = after;
          taken = taken;
          has = has;
          stays = stays old new before after had has stands;
          kept = lowered x is_x;
          within = stays_within old new before after x after had is_x has has within;
          exactly = subst (λ (z : Machine). OnOk taken (KeepsReached z after)) same exactly;
          counted = subst (λ (z : Machine). IsErr taken ↔ IsCountedOut z.heap) same counted;
          unmoved = subst (λ
              (z : Machine). OnErr taken (Unmoved z.heap z.registers.items after.heap after.registers.items)) same
              unmoved;
          is = is;
        }),
  )

-- from the machine before to the one with a cap
pub guest_within : (tuples fields : ℕ) (old new : Guest) (before after : Machine) (answer : Answer) →
    Has old before → Has new after → answer ≡ bare done →
    ((P : TProg) (m : ℕ) → Stands P m before → Stands P m after) →
    most_tuples after ≡ max (kept_tuples before) (min tuples 4294967295) →
    most_fields after ≡ max (kept_fields before) (min fields 4294967295) → KeepsWithin after →
    StaysSpare before after → GuestWithin tuples fields old new answer
guest_within tuples fields old new before after answer had has is stands tuple_cap field_cap within spare = (
  had_one old before had,
  (λ x is_x.
      let same = one old before x had is_x in
      record {
        after = after;
        has = has;
        stays = stays old new before after had has stands;
        tuple_cap = tuple_cap ∙ ap (λ (z : Machine). max (kept_tuples z) (min tuples 4294967295)) same;
        field_cap = field_cap ∙ ap (λ (z : Machine). max (kept_fields z) (min fields 4294967295)) same;
        within = within;
        spare = subst (λ (z : Machine). StaysSpare z after) same spare;
        is = is;
      }),
)

pub empty_reserve : (tuples fields : ℕ) (old new : Guest) (answer : Answer) → old.machine ≡ None → new ≡ old →
    answer ≡ bare usage → GuestReserve tuples fields old new answer
empty_reserve tuples fields old new answer none same is =
    (not_run old new answer same is, (λ x has. has_none old x none has))

pub empty_collect : (old new : Guest) (answer : Answer) → old.machine ≡ None → new ≡ old →
    answer ≡ bare usage → GuestCollect old new answer
empty_collect old new answer none same is = (not_run old new answer same is, (λ x has. has_none old x none has))

pub empty_within : (tuples fields : ℕ) (old new : Guest) (answer : Answer) → old.machine ≡ None → new ≡ old →
    answer ≡ bare usage → GuestWithin tuples fields old new answer
empty_within tuples fields old new answer none same is =
    (not_run old new answer same is, (λ x has. has_none old x none has))
