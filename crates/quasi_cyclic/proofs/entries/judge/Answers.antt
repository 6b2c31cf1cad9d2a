use Rattle.std.proofs.Common.{◌≡◌, ◌∙◌, rules}
use Rattle.quasi_cyclic.specs.Entries.{first_bad_entry}
use Rattle.quasi_cyclic.proofs.BadEntries.{first_bad}
use Rattle.quasi_cyclic.proofs.entries.judge.Goals as goal

pub returns-in-Some : goal.returns-in-Some
returns-in-Some c =
    let bad : c.first_bad_entry.result ≡ first_bad_entry c.args.squares.z 0 c.args.entries.now = c.first_bad_entry.ensures ∙ first_bad c.args.squares.z c.args.entries.now in
    search rules

pub returns : goal.returns
returns c =
    let bad : c.first_bad_entry.result ≡ first_bad_entry c.args.squares.z 0 c.args.entries.now = c.first_bad_entry.ensures ∙ first_bad c.args.squares.z c.args.entries.now in
    search rules
