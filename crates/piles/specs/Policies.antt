-- The policies by the words of a line: first, heaviest, component first, component heaviest.
--
--   plain_policy   the policy of one word
--   component_over component over a plain policy
--   policy_of      the policy that a line writes, none where it is not understood
use Rattle.std.specs.Prelude.{ℕ, cond, List, Some, None, codes, Option}
use Rattle.std.specs.Option.{option_map}
use Rattle.std.specs.Str.{bytes_eq}
use Rattle.script.specs.Calls.{only}
use Rattle.script.specs.Words.{word}
use Rattle.piles.specs.declared.policy.PolicyName.{PolicyName}
use Rattle.piles.specs.declared.policy.PolicyName.TheVariants.{First, Heaviest, ComponentFirst, ComponentHeaviest}

abbrev pub plain_policy : List ℕ → Option PolicyName
plain_policy w = cond (bytes_eq w (codes "first")) (Some First) (cond (bytes_eq w (codes "heaviest")) (Some Heaviest) None)

abbrev pub component_over : PolicyName → PolicyName
component_over First = ComponentFirst
component_over Heaviest = ComponentHeaviest
component_over ComponentFirst = ComponentFirst
component_over ComponentHeaviest = ComponentHeaviest

abbrev pub policy_of : List ℕ → Option PolicyName
policy_of line =
    cond (bytes_eq (word 0 line) (codes "component"))
    (only 2 line (option_map component_over (plain_policy (word 1 line))))
    (only 1 line (plain_policy (word 0 line)))
