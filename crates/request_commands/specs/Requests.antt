-- What a line asks for, and the replies that are right for it.
use Rattle.std.specs.Prelude.{◌≡◌, ℕ, List, codes, bytes_eq, Option, Some, None, option_and_then, option_map, if◌then◌else◌}
use Rattle.plain_texts.specs.{with_feed}
use Rattle.mode_network.specs.NetworkLists.{NetworkLists}
use Rattle.hierarchy.specs.{HierarchyLists}
use Rattle.journey.specs.{at_space, block_text, IsBlockUnder}
use Rattle.few_boardings.specs.{IsFewBlock}
use Rattle.departures.specs.{IsProfileBlock}
use Rattle.planning.specs.{IsBlockWithin}
use Rattle.latest_departure.specs.{IsLateBlockWithin}
use Rattle.answer_commands.specs.{IsCertifiedWithin}
use Rattle.late_commands.specs.{IsLateCertifiedWithin}
use Rattle.run_steps.specs.declared.limits.Limits.{Limits}
use Rattle.command_words.specs.{window_of}
pub use Rattle.request_commands.specs.{declared.asked.LineCommand.LineCommand, declared.asked.LineCommand.TheVariants.Answer, declared.asked.LineCommand.TheVariants.Few, declared.asked.LineCommand.TheVariants.Latest, declared.asked.LineCommand.TheVariants.Profile, declared.asked.LineCommand.TheVariants.Certify, declared.asked.LineCommand.TheVariants.CertifyLatest}

-- the command of this name, of those that have nothing before their query line
unfoldable pub command_named : List ℕ → Option LineCommand
command_named name =
    if bytes_eq name (codes "answer") then Some Answer
    else (if bytes_eq name (codes "few") then Some Few
    else (if bytes_eq name (codes "latest") then Some Latest
    else (if bytes_eq name (codes "certify") then Some Certify
    else (if bytes_eq name (codes "certify-latest") then Some CertifyLatest
    else None))))

-- `profile` has the length of its window before its query line, and a space between them
abbrev pub windowed : List ℕ → Option (LineCommand × List ℕ)
windowed words = option_and_then (λ parts. option_map (λ window. (Profile window, parts.1)) (window_of parts.0)) (at_space words)

-- the command that a name and the words behind it ask for, and the query line for it
abbrev pub asked_for : List ℕ × List ℕ → Option (LineCommand × List ℕ)
asked_for (name, words) =
    if bytes_eq name (codes "profile") then windowed words else option_map (λ command. (command, words)) (command_named name)

-- the command that a line names before its first space, and the query line for it
unfoldable pub asked_on_line : List ℕ → Option (LineCommand × List ℕ)
asked_on_line line = option_and_then asked_for (at_space line)

-- what the command writes for the query line, over the hierarchy where one is given, where its search may have so many labels
abbrev pub IsReplyWithin : NetworkLists → Option HierarchyLists → (labels : Option ℕ) → LineCommand → List ℕ → List ℕ → Type 0
IsReplyWithin n h labels Answer line reply = IsBlockWithin n h labels line reply
IsReplyWithin n h labels Few line reply = IsFewBlock n line reply
IsReplyWithin n h labels Latest line reply = IsLateBlockWithin n labels line reply
IsReplyWithin n h labels (Profile window) line reply = IsProfileBlock n window line reply
IsReplyWithin n h labels Certify line reply = IsCertifiedWithin n h labels line reply
IsReplyWithin n h labels CertifyLatest line reply = IsLateCertifiedWithin n labels line reply

-- and its expression may have so many places
abbrev pub IsReplyOf : NetworkLists → Option HierarchyLists → Limits → LineCommand → List ℕ → List ℕ → Type 0
IsReplyOf n h limits command line reply = IsBlockUnder n limits.places (IsReplyWithin n h limits.labels command) line reply

-- the reply to what a line asks for; one that names no command is refused
abbrev pub IsReplyTo : NetworkLists → Option HierarchyLists → Limits → List ℕ → Option (LineCommand × List ℕ) → List ℕ → Type 0
IsReplyTo n h limits line None reply = reply ≡ block_text line (with_feed (codes "refused command"))
IsReplyTo n h limits line (Some asked) reply = IsReplyOf n h limits asked.0 asked.1 reply

-- the right reply to a line
abbrev pub IsReply : NetworkLists → Option HierarchyLists → Limits → List ℕ → List ℕ → Type 0
IsReply n h limits line reply = IsReplyTo n h limits line (asked_on_line line) reply
