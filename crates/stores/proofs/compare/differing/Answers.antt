use Rattle.std.proofs.Common.{◌≡◌, ℕ, max, Bool, not, length, sym, ◌∙◌, arith, rules, tests}
use Rattle.std.specs.List.{range_with_len}
use Rattle.std.proofs.lemmas.Iterator.{YieldsList-from_range}
use Rattle.std.proofs.lemmas.Iterator.Consumers.{YieldsList-from_filter, count_from_yields_List}
use Rattle.std.proofs.lemmas.List.Sums.{length-filter}
use Rattle.stores.specs.Differing.{alike, differing}
use Rattle.stores.proofs.Comparing.{differing_none}
use Rattle.stores.specs.Stores.{read_at}
use Rattle.stores.proofs.compare.differing.Given as given
use Rattle.stores.proofs.compare.differing.Goals as goal

-- the chain's items are the places that differ
counted : (g : given.Over) (c : goal.After-count g) → c.count.result ≡ differing (g.S.Store.meaning c.args.one.now).entries (g.T.Store.meaning c.args.other.now).entries
counted g c =
    let xs = (g.S.Store.meaning c.args.one.now).entries in
    let ys = (g.T.Store.meaning c.args.other.now).entries in
    let test : ℕ → Bool = λ p. not (alike (read_at xs p) (read_at ys p)) in
    let size = max (length xs) (length ys) in
    count_from_yields_List c.filter.result c.count.result c.count.ensures.ran
    (YieldsList-from_filter _ test (YieldsList-from_range 0 _ size c.filter.ensures.source (omega arith)) c.filter.ensures.closure (λ x b q k. search (rules, tests)))
    ∙ length-filter test (range_with_len 0 size)

pub returns-clause-count : goal.returns-clause-count
returns-clause-count = counted

pub returns-clause-none : goal.returns-clause-none
returns-clause-none g c = (λ zero. differing_none _ _ (sym (counted g c) ∙ zero), λ same. search rules)
