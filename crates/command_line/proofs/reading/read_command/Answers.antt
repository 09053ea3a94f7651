use Rattle.std.proofs.Common.{rules, ◌≡◌, true, false, Some, map, ℕ, List, codes, slice_get}
use Rattle.std.specs.Borrow.{Bor}
use Rattle.command_line.proofs.NamingLaws.{gives_check, gives_load, gives_run, is_word, no_name, no_word}
use Rattle.command_line.proofs.reading.read_command.Goals as goal

pub returns-in_default : goal.returns-in_default
returns-in_default c = no_word c.args.words.now c.first.result c.first.ensures.value c.in_default.not-Some

pub returns-then-eq : goal.returns-then-eq
returns-then-eq c =
    let run : is_word c.as_str-name.result.now (codes "run") ≡ true = search rules in
    let first : Some c.as_str-name.result.now ≡ slice_get c.args.words.now 0 = search rules in
    let same : map (λ (text : Bor (List ℕ)). text.now) c.as_slice.result.now ≡ c.args.words.now = search rules in
    gives_run _ _ _ first same _ run c.read_run.ensures

pub returns-then-eq-2 : goal.returns-then-eq-2
returns-then-eq-2 c =
    let run : is_word c.as_str-name.result.now (codes "run") ≡ false = search rules in
    let check : is_word c.as_str-name.result.now (codes "check") ≡ true = search rules in
    let first : Some c.as_str-name.result.now ≡ slice_get c.args.words.now 0 = search rules in
    let same : map (λ (text : Bor (List ℕ)). text.now) c.as_slice-then-eq-2.result.now ≡ c.args.words.now = search rules in
    gives_check _ _ _ first same _ run check c.read_check.ensures

pub returns-then-eq-3 : goal.returns-then-eq-3
returns-then-eq-3 c =
    let run : is_word c.as_str-name.result.now (codes "run") ≡ false = search rules in
    let check : is_word c.as_str-name.result.now (codes "check") ≡ false = search rules in
    let load : is_word c.as_str-name.result.now (codes "load") ≡ true = search rules in
    let first : Some c.as_str-name.result.now ≡ slice_get c.args.words.now 0 = search rules in
    let same : map (λ (text : Bor (List ℕ)). text.now) c.as_slice-then-eq-3.result.now ≡ c.args.words.now = search rules in
    gives_load _ _ _ first same _ run check load c.read_load.ensures

pub returns : goal.returns
returns c =
    let run : is_word c.as_str-name.result.now (codes "run") ≡ false = search rules in
    let check : is_word c.as_str-name.result.now (codes "check") ≡ false = search rules in
    let load : is_word c.as_str-name.result.now (codes "load") ≡ false = search rules in
    let first : Some c.as_str-name.result.now ≡ slice_get c.args.words.now 0 = search rules in
    no_name _ _ first run check load
