-- What a parse by the description says of the command.
use Rattle.std.proofs.Common.{◌≡◌, ◌∙◌, List, [], ◌∷◌, option_map, Option, Some, None, refl, true, ap, ap₂, sym, subst}
use Rattle.std.proofs.Common.{◌⊎◌, inl, inr, Result, Ok, Err}
use Rattle.clap.specs.Words.{App, Text, Row, Kinds, IsAmong, fault_of, is_simple, is_simple_and_free, subcommand_of}
use Rattle.clap.proofs.OnLiterals.{clap_on_literals}
use Rattle.clap.specs.declared.error.kind.ErrorKind.{ErrorKind}
use Rattle.talc_words.specs.Description.{talc_app}
use Rattle.clap.specs.declared.error.kind.ErrorKind.TheVariants.{OutOfMemory}
use Rattle.talc_words.specs.declared.command.NoCommand.{NoCommand}
use Rattle.talc_words.specs.declared.command.NoCommand.TheVariants.{Usage, Memory}
use Rattle.talc_words.specs.declared.command.Command.{Command}
use Rattle.talc_words.specs.Reads.{AsksFor, Reads}
use Rattle.talc_words.specs.Command.{Asked, asked_of, command_of, where_none}

pub talc_is_simple : is_simple talc_app ≡ true
unfolding clap_on_literals
talc_is_simple = refl

pub talc_is_free : is_simple_and_free talc_app ≡ true
unfolding clap_on_literals
talc_is_free = refl

-- where `clap` takes the words, they ask for what the subcommand that it enters asks for
pub command_taken : (app : App) (ws words : List Text) (rows : Option (Text × List Row)) (asked : Option Asked) →
    app ≡ talc_app → ws ≡ words → fault_of app ws ≡ [] → rows ≡ subcommand_of app ws → asked ≡ asked_of rows →
    command_of words ≡ asked
unfolding command_of
command_taken app ws words rows asked app_is words_are none rows_are is =
    let taken : fault_of talc_app words ≡ [] = sym (ap₂ fault_of app_is words_are) ∙ none in
    let same : rows ≡ subcommand_of talc_app words = rows_are ∙ ap₂ subcommand_of app_is words_are in
    rw taken (ap asked_of (sym same) ∙ sym is)

refused_none : (k : ErrorKind) (kinds : Kinds) (o : Option Asked) → IsAmong k kinds → where_none kinds o ≡ None
refused_none k [] o among = absurd among
refused_none k (x ∷ xs) o among = refl

-- where an error of `clap`'s comes, the words are no command
pub command_refused : (app : App) (ws words : List Text) (k : ErrorKind) → app ≡ talc_app → ws ≡ words →
    IsAmong k (fault_of app ws) → command_of words ≡ None
unfolding command_of
command_refused app ws words k app_is words_are among =
    refused_none k (fault_of talc_app words) (asked_of (subcommand_of talc_app words))
    (subst (λ ks. IsAmong k ks) (ap₂ fault_of app_is words_are) among)

-- what is asked for is the command, and where nothing is, there is none
pub asked_reads : (words : List Text) (asked : Option Asked) (r : Result Command NoCommand) →
    command_of words ≡ asked → AsksFor asked r → Reads words r
asked_reads words asked (Ok command) is asks = is ∙ asks
asked_reads words asked (Err (Usage text)) is none = is ∙ none
asked_reads words asked (Err Memory) is none = tt

-- an error of `clap`'s that is not want of memory comes only where the words are no command
pub refusal_reads : (app : App) (ws words : List Text) (k : ErrorKind) (n : NoCommand) → app ≡ talc_app → ws ≡ words →
    (k ≡ OutOfMemory) ⊎ IsAmong k (fault_of app ws) → (k ≡ OutOfMemory → n ≡ Memory) → Reads words (Err n)
refusal_reads app ws words k Memory app_is words_are why answer = tt
refusal_reads app ws words k (Usage text) app_is words_are why answer =
    elim why [
      | inl memory ↦ let e : Usage text ≡ Memory = answer memory in cc
      | inr among ↦ command_refused app ws words k app_is words_are among
    ]

-- an entry, by its two parts
pub entry_is : {B X Y : Type 0} (f : B → X) (g : B → Y) (o : Option B) (x : X) (y : Y) → Some x ≡ option_map f o →
    Some y ≡ option_map (λ (p : X × Y). p.1) (option_map {U = X × Y} (λ b. (f b, g b)) o) →
    option_map {U = X × Y} (λ b. (f b, g b)) o ≡ Some (x, y)
entry_is f g None x y is_x is_y = cc
entry_is f g (Some b) x y is_x is_y = let e : x ≡ f b = cc in let h : y ≡ g b = cc in rw (e, h) refl
