use Rattle.std.proofs.Common.{◌≡◌, [], ◌∷◌, refl, rules}
use Rattle.recovery.specs.Search.{last_index}
use Rattle.recovery.proofs.Lasts.{last_index_by}
use Rattle.recovery.proofs.search.youngest.Goals as goal

pub returns : goal.returns
returns g c =
    elim c.args.records.now as (λ xs. c.args.records.now ≡ xs → c.rposition.result ≡ last_index (λ x. g.R.Naming.names x c.args.key) c.args.records.now) [
      | [] ↦ λ e. search rules
      | (d ∷ ds) ↦ λ e. last_index_by (λ x. g.R.Naming.names x c.args.key) d c.args.records.now c.rposition.result (λ n k l. search rules) (λ i s. (search rules, search rules, λ k n l. search rules))
    ] refl
