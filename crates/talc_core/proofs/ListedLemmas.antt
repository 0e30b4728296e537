-- What `listing` does on the files and the output, from what its work does there and what is told.
use Rattle.std.proofs.Common.{◌≡◌, ℕ, List, Ok, Err, refl, inl, inr, sym, ap, subst, Bool, true, false, Option, Some}
use Rattle.std.proofs.Common.{None}
use Rattle.std.proofs.Common.{MatchOption, if◌then◌else◌}
use Rattle.std.specs.Prelude.{Result}
use Rattle.io_core.specs.Outside.{FilesState, SinkState, Holds, IsUnput, gained}
use Rattle.talc_core.specs.declared.fault.Fault.{Fault}
use Rattle.talc_core.specs.declared.reply.Ending.{Ending}
use Rattle.talc_core.specs.declared.reply.Ending.TheVariants.{Ends, GoesOn}
use Rattle.talc_core.specs.declared.report.Failure.{Failure}
use Rattle.talc_core.specs.declared.report.Failure.TheVariants as failed
use Rattle.talc_core.specs.declared.status.Status.{Status}
use Rattle.talc_core.specs.declared.status.Status.TheVariants.{Done, Refused, Usage, Limit, Budget, ReadFault}
use Rattle.talc_core.specs.declared.status.Status.TheVariants.{WriteFault, Memory}
use Rattle.talc_core.specs.declared.reply.TextListing.{TextListing}
use Rattle.talc_core.specs.Fault.{is_limit, status_of}
use Rattle.talc_core.specs.Lines.{fault_line}
use Rattle.talc_core.specs.Headline.{Outside, TakesLine, Unwritten, ReadAlone, FaultPut, ListedRefused, ListAnswer}
use Rattle.talc_core.specs.Listed.{ListingShown, FaultListed, ShowsListed}
use Rattle.talc_core.specs.OnTexts.{status_at}
use Rattle.talc_core.specs.Steps.{ListsFile, IsListed, PutsLine, Reports, ended_by}

-- the outside of a call
abbrev pub outside : FilesState → SinkState → SinkState → Outside
outside files out err = record { files = files; out = out; err = err }

-- a sink that is as it was has taken no more
pub unput : (old new : SinkState) → new ≡ old → IsUnput old new
unput old new same = (ap (λ (s : SinkState). s.taken) same, ap (λ (s : SinkState). s.faults) same)

-- a listing is shown of the text by some status
by_fault : (name text shown : List ℕ) (fault : Option Fault) →
    MatchOption fault (ListingShown text shown) (λ x. FaultListed name text x shown) →
    (status : Status) × ShowsListed name status text shown
by_fault name text shown None h = (Done, h)
by_fault name text shown (Some fault) h = by_limit (is_limit fault) refl
  where
    by_limit : (b : Bool) → is_limit fault ≡ b → (status : Status) × ShowsListed name status text shown
    by_limit true e = (Limit, (fault, ap (λ (x : Bool). if x then Limit else Refused) e, h))
    by_limit false e = (Refused, (fault, ap (λ (x : Bool). if x then Limit else Refused) e, h))

shows_some : (name text : List ℕ) (l : TextListing) → IsListed name text l →
    (status : Status) × ShowsListed name status text l.shown.items
shows_some name text l h = by_fault name text l.shown.items l.fault h

module _ (f f' : FilesState) (o o' e e' : SinkState) where
  list_refused : (input : List ℕ) (fault : Fault) (status : Status) →
      ListsFile input f f' o o' (Err (failed.Refused fault)) →
      (status_of fault ≡ status) × TakesLine e e' (fault_line fault) →
      ListedRefused status input (outside f o e) (outside f' o' e')
  list_refused input fault status shown told =
      record {
        source = shown.0;
        fault = fault;
        shown = shown.1;
        read = shown.2;
        listed = shown.3;
        leads = told.0;
        line = told.1;
        out = shown.4;
        files = shown.5;
        calls = shown.6;
      }

  pub list_failed : (input : List ℕ) (failure : Failure) (status : Status) → ListsFile input f f' o o' (Err failure) →
      Reports failure e e' status → ListAnswer input (outside f o e) (outside f' o' e') status
  list_failed input (failed.Refused fault) Done shown told = absurd told
  list_failed input (failed.Refused fault) Refused shown told = list_refused input fault Refused shown told
  list_failed input (failed.Refused fault) Usage shown told = absurd told
  list_failed input (failed.Refused fault) Limit shown told = list_refused input fault Limit shown told
  list_failed input (failed.Refused fault) Budget shown told = absurd told
  list_failed input (failed.Refused fault) ReadFault shown told = absurd told
  list_failed input (failed.Refused fault) WriteFault shown told = absurd told
  list_failed input (failed.Refused fault) Memory shown told =
      let put : FaultPut input (outside f o e) (outside f' o' e') = record {
        source = shown.0;
        fault = fault;
        shown = shown.1;
        read = shown.2;
        listed = shown.3;
        out = shown.4;
      } in
      record { line = told; out = inr put; files = shown.5; calls = inr shown.6 }
  list_failed input failed.Read Done shown told = absurd told
  list_failed input failed.Read Refused shown told = absurd told
  list_failed input failed.Read Usage shown told = absurd told
  list_failed input failed.Read Limit shown told = absurd told
  list_failed input failed.Read Budget shown told = absurd told
  list_failed input failed.Read ReadFault shown told =
      record { cause = shown.0; line = told; out = shown.2; files = shown.1; calls = shown.3 }
  list_failed input failed.Read WriteFault shown told = absurd told
  list_failed input failed.Read Memory shown told =
      record { line = told; out = inl (unput o o' shown.2); files = shown.1; calls = inr shown.3 }
  list_failed input failed.Write Done shown told = absurd told
  list_failed input failed.Write Refused shown told = absurd told
  list_failed input failed.Write Usage shown told = absurd told
  list_failed input failed.Write Limit shown told = absurd told
  list_failed input failed.Write Budget shown told = absurd told
  list_failed input failed.Write ReadFault shown told = absurd told
  list_failed input failed.Write WriteFault shown told =
      record {
        source = shown.0;
        shown = shown.1;
        ending = shown.2;
        read = shown.3;
        says = shown.4;
        cause = shown.5;
        line = told;
        out = shown.6;
        files = shown.7;
        calls = shown.8;
      }
  list_failed input failed.Write Memory shown told = absurd told
  list_failed input failed.Memory Done shown told = absurd told
  list_failed input failed.Memory Refused shown told = absurd told
  list_failed input failed.Memory Usage shown told = absurd told
  list_failed input failed.Memory Limit shown told = absurd told
  list_failed input failed.Memory Budget shown told = absurd told
  list_failed input failed.Memory ReadFault shown told = absurd told
  list_failed input failed.Memory WriteFault shown told = absurd told
  list_failed input failed.Memory Memory shown told =
      record { line = told; out = inl shown.1; files = shown.0; calls = shown.2 }

  -- the work, up to the put of what is shown
  module _ (input text : List ℕ) (l : TextListing) (read : Holds f.told input text) (kept : Unwritten f f')
      (alone : ReadAlone input f f') (listed : IsListed input text l)
    where
      pub put_failed : (failure : Failure) → PutsLine l.shown.items o o' (Err failure) →
          ListsFile input f f' o o' (Err failure)
      put_failed (failed.Refused fault) put = absurd put
      put_failed failed.Read put = absurd put
      put_failed failed.Write put =
          let says = shows_some input text l listed in
          (text, l.shown.items, says.0, read, says.1, put.0, put.1, kept, alone)
      put_failed failed.Memory put = (kept, put, inr alone)

      -- and once it is shown
      put_done : (fault : Option Fault) →
          MatchOption fault (ListingShown text l.shown.items) (λ x. FaultListed input text x l.shown.items) →
          o'.taken ≡ gained o.taken l.shown.items → ListsFile input f f' o o' (ended_by fault)
      put_done None says put = (text, l.shown.items, read, says, put, kept, alone)
      put_done (Some fault) says put = (text, l.shown.items, read, says, put, kept, alone)

      pub put_ended : (result : Result Ending Failure) → result ≡ ended_by l.fault →
          o'.taken ≡ gained o.taken l.shown.items → ListsFile input f f' o o' result
      put_ended result is put = subst (ListsFile input f f' o o') (sym is) (put_done l.fault listed put)

  pub list_ended : (input : List ℕ) (ending : Ending) → ListsFile input f f' o o' (Ok ending) →
      ListAnswer input (outside f o e) (outside f' o' e) (status_at ending)
  list_ended input Ends shown =
      record {
        source = shown.0;
        line = shown.1;
        read = shown.2;
        says = shown.3;
        out = shown.4;
        err = refl;
        files = shown.5;
        calls = shown.6;
      }
  list_ended input GoesOn shown = absurd shown
