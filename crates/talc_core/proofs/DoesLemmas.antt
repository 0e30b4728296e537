-- What a command does where its work fails, from what the work does then and what is told.
use Rattle.std.proofs.Common.{◌≡◌, ◌⊎◌, ℕ, List, Ok, Err, refl, sym, subst, inl, inr}
use Rattle.io_core.specs.Outside.{FilesState, SinkState}
use Rattle.talc_core.specs.declared.reply.Ending.{Ending}
use Rattle.talc_core.specs.declared.reply.Ending.TheVariants.{Ends, GoesOn}
use Rattle.talc_core.specs.declared.report.Failure.{Failure}
use Rattle.talc_core.specs.declared.report.Failure.TheVariants as failed
use Rattle.talc_core.specs.declared.status.Status.{Status}
use Rattle.talc_core.specs.declared.status.Status.TheVariants.{Done, Refused, Usage, Limit, Budget, ReadFault}
use Rattle.talc_core.specs.declared.status.Status.TheVariants.{WriteFault, Memory}
use Rattle.talc_core.specs.Command.{Asked, Compiles, CompilesWithin, Types, Evaluates, Checks, Runs, Generates}
use Rattle.talc_core.specs.Command.{Upgrades, Traces, Shows, Explains, Lists, Costs, TypesNames, Builds}
use Rattle.talc_core.specs.Command.{Disassembles}
use Rattle.talc_core.specs.FirstFault.{Need, AnyText, AnyTerm, AProgram, CellFree, AnAssembly}
use Rattle.talc_core.specs.CompiledText.{CompiledText, CompiledTextWithin}
use Rattle.talc_core.specs.Upgraded.{IsUpgraded}
use Rattle.talc_core.specs.NativeText.{IsNativeText}
use Rattle.talc_core.specs.NativeListing.{ShowsNativeListing}
use Rattle.talc_core.specs.Shown.{Showing, ShowsType, ShowsValue, ShowsAccepted, ShowsRun, ShowsTrace, ShowsCost}
use Rattle.talc_core.specs.Shown.{SeedShown}
use Rattle.talc_core.specs.FormShown.{ShowsForm}
use Rattle.talc_core.specs.Explained.{ShowsExplained}
use Rattle.talc_core.specs.Headline.{Unwritten, WrittenAlone, SeedWrittenAlone}
use Rattle.talc_core.specs.Headline.{TextAnswer, LineAnswer, SeedAnswer, Does}
use Rattle.talc_core.specs.Binding.{ShowsTypes}
use Rattle.f_seeds.specs.Source.{source as source_of}
use Rattle.io_core.specs.Outside.{with_file}
use Rattle.talc_core.specs.OnTexts.{Making, status_at}
use Rattle.talc_core.specs.Steps.{MakesFile, ShowsFile, ShowsSeed, Performs, Reports}
use Rattle.talc_core.proofs.ListedLemmas.{outside, unput, list_failed, list_ended}

module _ (f f' : FilesState) (o o' e e' : SinkState) where
  -- ---- the commands that show a line

  line_failed : (Says : Showing) (need : Need) (input : List ℕ) (failure : Failure) (status : Status) →
      ShowsFile Says need input f f' o o' (Err failure) → Reports failure e e' status →
      LineAnswer Says need input (outside f o e) (outside f' o' e') status
  line_failed Says need input (failed.Refused fault) Done shown told = absurd told
  line_failed Says need input (failed.Refused fault) Refused shown told =
      record {
        source = shown.0;
        fault = fault;
        read = shown.1;
        first = shown.2;
        leads = told.0;
        line = told.1;
        out = shown.4;
        files = shown.3;
        calls = shown.5;
      }
  line_failed Says need input (failed.Refused fault) Usage shown told = absurd told
  line_failed Says need input (failed.Refused fault) Limit shown told =
      record {
        source = shown.0;
        fault = fault;
        read = shown.1;
        first = shown.2;
        leads = told.0;
        line = told.1;
        out = shown.4;
        files = shown.3;
        calls = shown.5;
      }
  line_failed Says need input (failed.Refused fault) Budget shown told = absurd told
  line_failed Says need input (failed.Refused fault) ReadFault shown told = absurd told
  line_failed Says need input (failed.Refused fault) WriteFault shown told = absurd told
  line_failed Says need input (failed.Refused fault) Memory shown told =
      record { line = told; out = unput o o' shown.4; files = shown.3; calls = inr shown.5 }
  line_failed Says need input failed.Read Done shown told = absurd told
  line_failed Says need input failed.Read Refused shown told = absurd told
  line_failed Says need input failed.Read Usage shown told = absurd told
  line_failed Says need input failed.Read Limit shown told = absurd told
  line_failed Says need input failed.Read Budget shown told = absurd told
  line_failed Says need input failed.Read ReadFault shown told =
      record { cause = shown.0; line = told; out = shown.2; files = shown.1; calls = shown.3 }
  line_failed Says need input failed.Read WriteFault shown told = absurd told
  line_failed Says need input failed.Read Memory shown told =
      record { line = told; out = unput o o' shown.2; files = shown.1; calls = inr shown.3 }
  line_failed Says need input failed.Write Done shown told = absurd told
  line_failed Says need input failed.Write Refused shown told = absurd told
  line_failed Says need input failed.Write Usage shown told = absurd told
  line_failed Says need input failed.Write Limit shown told = absurd told
  line_failed Says need input failed.Write Budget shown told = absurd told
  line_failed Says need input failed.Write ReadFault shown told = absurd told
  line_failed Says need input failed.Write WriteFault shown told =
      record {
        source = shown.0;
        shown = shown.1;
        ending = status_at shown.2;
        read = shown.3;
        says = shown.4;
        cause = shown.5;
        line = told;
        out = shown.6;
        files = shown.7;
        calls = shown.8;
      }
  line_failed Says need input failed.Write Memory shown told = absurd told
  line_failed Says need input failed.Memory Done shown told = absurd told
  line_failed Says need input failed.Memory Refused shown told = absurd told
  line_failed Says need input failed.Memory Usage shown told = absurd told
  line_failed Says need input failed.Memory Limit shown told = absurd told
  line_failed Says need input failed.Memory Budget shown told = absurd told
  line_failed Says need input failed.Memory ReadFault shown told = absurd told
  line_failed Says need input failed.Memory WriteFault shown told = absurd told
  line_failed Says need input failed.Memory Memory shown told =
      record { line = told; out = shown.1; files = shown.0; calls = shown.2 }

  -- ---- the commands that write a text made of another

  text_failed : (Makes : Making) (need : Need) (input output : List ℕ) → o' ≡ o →
      (failure : Failure) (status : Status) → MakesFile Makes need input output f f' (Err failure) →
      Reports failure e e' status → TextAnswer Makes need input output (outside f o e) (outside f' o' e') status
  text_failed Makes need input output same (failed.Refused fault) Done shown told = absurd told
  text_failed Makes need input output same (failed.Refused fault) Refused shown told =
      record {
        source = shown.0;
        fault = fault;
        read = shown.1;
        first = shown.2;
        leads = told.0;
        line = told.1;
        out = same;
        files = shown.3;
        calls = shown.4;
      }
  text_failed Makes need input output same (failed.Refused fault) Usage shown told = absurd told
  text_failed Makes need input output same (failed.Refused fault) Limit shown told =
      record {
        source = shown.0;
        fault = fault;
        read = shown.1;
        first = shown.2;
        leads = told.0;
        line = told.1;
        out = same;
        files = shown.3;
        calls = shown.4;
      }
  text_failed Makes need input output same (failed.Refused fault) Budget shown told = absurd told
  text_failed Makes need input output same (failed.Refused fault) ReadFault shown told = absurd told
  text_failed Makes need input output same (failed.Refused fault) WriteFault shown told = absurd told
  text_failed Makes need input output same (failed.Refused fault) Memory shown told =
      record { line = told; out = unput o o' same; files = shown.3; calls = inr shown.4 }
  text_failed Makes need input output same failed.Read Done shown told = absurd told
  text_failed Makes need input output same failed.Read Refused shown told = absurd told
  text_failed Makes need input output same failed.Read Usage shown told = absurd told
  text_failed Makes need input output same failed.Read Limit shown told = absurd told
  text_failed Makes need input output same failed.Read Budget shown told = absurd told
  text_failed Makes need input output same failed.Read ReadFault shown told =
      record { cause = shown.0; line = told; out = same; files = shown.1; calls = shown.2 }
  text_failed Makes need input output same failed.Read WriteFault shown told = absurd told
  text_failed Makes need input output same failed.Read Memory shown told =
      record { line = told; out = unput o o' same; files = shown.1; calls = inr shown.2 }
  text_failed Makes need input output same failed.Write Done shown told = absurd told
  text_failed Makes need input output same failed.Write Refused shown told = absurd told
  text_failed Makes need input output same failed.Write Usage shown told = absurd told
  text_failed Makes need input output same failed.Write Limit shown told = absurd told
  text_failed Makes need input output same failed.Write Budget shown told = absurd told
  text_failed Makes need input output same failed.Write ReadFault shown told = absurd told
  text_failed Makes need input output same failed.Write WriteFault shown told =
      record {
        source = shown.0;
        target = shown.1;
        read = shown.2;
        made = shown.3;
        cause = shown.4;
        line = told;
        out = same;
        files = shown.5;
        calls = shown.6;
      }
  text_failed Makes need input output same failed.Write Memory shown told = absurd told
  text_failed Makes need input output same failed.Memory Done shown told = absurd told
  text_failed Makes need input output same failed.Memory Refused shown told = absurd told
  text_failed Makes need input output same failed.Memory Usage shown told = absurd told
  text_failed Makes need input output same failed.Memory Limit shown told = absurd told
  text_failed Makes need input output same failed.Memory Budget shown told = absurd told
  text_failed Makes need input output same failed.Memory ReadFault shown told = absurd told
  text_failed Makes need input output same failed.Memory WriteFault shown told = absurd told
  text_failed Makes need input output same failed.Memory Memory shown told =
      record { line = told; out = unput o o' same; files = shown.0; calls = shown.1 }

  -- ---- the command `gen`

  seed_ended : (seed : ℕ) (output : List ℕ) (ending : Ending) → ShowsSeed seed output f f' o o' (Ok ending) →
      SeedAnswer seed output (outside f o e) (outside f' o' e) (status_at ending)
  seed_ended seed output Ends shown =
      record {
        lines = shown.0;
        says = shown.1;
        written = shown.2;
        out = shown.3;
        err = refl;
        unread = shown.4;
        calls = shown.5;
      }
  seed_ended seed output GoesOn shown = absurd shown

  seed_unwritten : (seed : ℕ) (output : List ℕ) → ShowsSeed seed output f f' o o' (Err failed.Write) →
      Reports failed.Write e e' WriteFault → SeedAnswer seed output (outside f o e) (outside f' o' e') WriteFault
  seed_unwritten seed output (inl unwritten) told =
      inl (record {
        lines = unwritten.0;
        says = unwritten.1;
        cause = unwritten.2;
        line = told;
        out = unwritten.4;
        files = unwritten.3;
        unread = unwritten.5;
        calls = unwritten.6;
      })
  seed_unwritten seed output (inr unshown) told =
      inr (record {
        lines = unshown.0;
        says = unshown.1;
        written = unshown.2;
        cause = unshown.3;
        line = told;
        out = unshown.4;
        unread = unshown.5;
        calls = unshown.6;
      })

  seed_files : (seed : ℕ) (output : List ℕ) →
      (Unwritten f f' × (f'.calls ≡ f.calls))
      ⊎ ((lines : List ℕ) × SeedShown seed lines × (f'.told ≡ with_file f.told output (source_of seed))
      × WrittenAlone output (source_of seed) f f') →
      (Unwritten f f' × (f'.calls ≡ f.calls)) ⊎ SeedWrittenAlone seed output (outside f o e) (outside f' o' e')
  seed_files seed output (inl unwritten) = inl unwritten
  seed_files seed output (inr alone) =
      inr (record { lines = alone.0; says = alone.1; written = alone.2; calls = alone.3 })

  seed_failed : (seed : ℕ) (output : List ℕ) (failure : Failure) (status : Status) →
      ShowsSeed seed output f f' o o' (Err failure) → Reports failure e e' status →
      SeedAnswer seed output (outside f o e) (outside f' o' e') status
  seed_failed seed output (failed.Refused fault) status shown told = absurd shown
  seed_failed seed output failed.Read status shown told = absurd shown
  seed_failed seed output failed.Write Done shown told = absurd told
  seed_failed seed output failed.Write Refused shown told = absurd told
  seed_failed seed output failed.Write Usage shown told = absurd told
  seed_failed seed output failed.Write Limit shown told = absurd told
  seed_failed seed output failed.Write Budget shown told = absurd told
  seed_failed seed output failed.Write ReadFault shown told = absurd told
  seed_failed seed output failed.Write WriteFault shown told = seed_unwritten seed output shown told
  seed_failed seed output failed.Write Memory shown told = absurd told
  seed_failed seed output failed.Memory Done shown told = absurd told
  seed_failed seed output failed.Memory Refused shown told = absurd told
  seed_failed seed output failed.Memory Usage shown told = absurd told
  seed_failed seed output failed.Memory Limit shown told = absurd told
  seed_failed seed output failed.Memory Budget shown told = absurd told
  seed_failed seed output failed.Memory ReadFault shown told = absurd told
  seed_failed seed output failed.Memory WriteFault shown told = absurd told
  seed_failed seed output failed.Memory Memory shown told =
      record { line = told; out = shown.0; unread = shown.1; files = seed_files seed output shown.2 }

  -- ---- where the work is done

  line_ended : (Says : Showing) (need : Need) (input : List ℕ) (ending : Ending) →
      ShowsFile Says need input f f' o o' (Ok ending) →
      LineAnswer Says need input (outside f o e) (outside f' o' e) (status_at ending)
  line_ended Says need input Ends shown =
      record {
        source = shown.0;
        line = shown.1;
        read = shown.2;
        says = shown.3;
        out = shown.4;
        err = refl;
        files = shown.5;
        calls = shown.6;
      }
  line_ended Says need input GoesOn shown =
      record {
        source = shown.0;
        line = shown.1;
        read = shown.2;
        says = shown.3;
        out = shown.4;
        err = refl;
        files = shown.5;
        calls = shown.6;
      }

  text_ended : (Makes : Making) (need : Need) (input output : List ℕ) → o' ≡ o → (ending : Ending) →
      MakesFile Makes need input output f f' (Ok ending) →
      TextAnswer Makes need input output (outside f o e) (outside f' o' e) (status_at ending)
  text_ended Makes need input output same Ends shown =
      record {
        source = shown.0;
        target = shown.1;
        read = shown.2;
        made = shown.3;
        written = shown.4;
        out = same;
        err = refl;
        calls = shown.5;
      }
  text_ended Makes need input output same GoesOn shown = absurd shown

  -- ---- by the command

  pub does_failed : (asked : Asked) (failure : Failure) (status : Status) → Performs asked f f' o o' (Err failure) →
      Reports failure e e' status → Does (outside f o e) (outside f' o' e') status asked
  does_failed (Compiles input output) failure status done told =
      text_failed CompiledText AProgram input output done.1 failure status done.0 told
  does_failed (CompilesWithin input output k) failure status done told =
      text_failed (CompiledTextWithin k) AProgram input output done.1 failure status done.0 told
  does_failed (Types input) failure status done told = line_failed ShowsType AnyTerm input failure status done told
  does_failed (Evaluates input turns) failure status done told =
      line_failed (ShowsValue turns) CellFree input failure status done told
  does_failed (Checks input) failure status done told =
      line_failed ShowsAccepted AnAssembly input failure status done told
  does_failed (Runs input fuel) failure status done told =
      line_failed (ShowsRun fuel) AnAssembly input failure status done told
  does_failed (Costs input fuel) failure status done told =
      line_failed (ShowsCost fuel) AnAssembly input failure status done told
  does_failed (Traces input from to) failure status done told =
      line_failed (ShowsTrace from to) AnAssembly input failure status done told
  does_failed (Shows input form) failure status done told =
      line_failed (ShowsForm form) AProgram input failure status done told
  does_failed (Explains input) failure status done told =
      line_failed (ShowsExplained input) AnyText input failure status done told
  does_failed (Lists input) failure status done told = list_failed f f' o o' e e' input failure status done told
  does_failed (TypesNames input) failure status done told =
      line_failed ShowsTypes AnyTerm input failure status done told
  does_failed (Generates seed output) failure status done told = seed_failed seed output failure status done told
  does_failed (Upgrades input output) failure status done told =
      text_failed IsUpgraded AnAssembly input output done.1 failure status done.0 told
  does_failed (Builds input output heap) failure status done told =
      text_failed (IsNativeText heap) AnAssembly input output done.1 failure status done.0 told
  does_failed (Disassembles input heap) failure status done told =
      line_failed (ShowsNativeListing heap) AnAssembly input failure status done told

  does_at_end : (asked : Asked) (ending : Ending) → Performs asked f f' o o' (Ok ending) →
      Does (outside f o e) (outside f' o' e) (status_at ending) asked
  does_at_end (Compiles input output) ending done = text_ended CompiledText AProgram input output done.1 ending done.0
  does_at_end (CompilesWithin input output k) ending done =
      text_ended (CompiledTextWithin k) AProgram input output done.1 ending done.0
  does_at_end (Types input) ending done = line_ended ShowsType AnyTerm input ending done
  does_at_end (Evaluates input turns) ending done = line_ended (ShowsValue turns) CellFree input ending done
  does_at_end (Checks input) ending done = line_ended ShowsAccepted AnAssembly input ending done
  does_at_end (Runs input fuel) ending done = line_ended (ShowsRun fuel) AnAssembly input ending done
  does_at_end (Costs input fuel) ending done = line_ended (ShowsCost fuel) AnAssembly input ending done
  does_at_end (Traces input from to) ending done = line_ended (ShowsTrace from to) AnAssembly input ending done
  does_at_end (Shows input form) ending done = line_ended (ShowsForm form) AProgram input ending done
  does_at_end (Explains input) ending done = line_ended (ShowsExplained input) AnyText input ending done
  does_at_end (Lists input) ending done = list_ended f f' o o' e e' input ending done
  does_at_end (TypesNames input) ending done = line_ended ShowsTypes AnyTerm input ending done
  does_at_end (Generates seed output) ending done = seed_ended seed output ending done
  does_at_end (Upgrades input output) ending done = text_ended IsUpgraded AnAssembly input output done.1 ending done.0
  does_at_end (Builds input output heap) ending done =
      text_ended (IsNativeText heap) AnAssembly input output done.1 ending done.0
  does_at_end (Disassembles input heap) ending done =
      line_ended (ShowsNativeListing heap) AnAssembly input ending done

  pub does_ended : (asked : Asked) (ending : Ending) (status : Status) → status ≡ status_at ending →
      Performs asked f f' o o' (Ok ending) → Does (outside f o e) (outside f' o' e) status asked
  does_ended asked ending status is done =
      subst (λ (s : Status). Does (outside f o e) (outside f' o' e) s asked) (sym is) (does_at_end asked ending done)
