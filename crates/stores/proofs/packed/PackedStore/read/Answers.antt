use Rattle.std.proofs.Common.{◌≡◌, ◌/◌, ℕ, List, Option, vec_items, slice_get, sym, ap, ◌∙◌, arith, rules, tests, Bor}
use Rattle.std.specs.Option.{option_map, option_copied}
use Rattle.std.specs.Slice.{IsItemAt}
use Rattle.std.proofs.lemmas.Option.{gets}
use Rattle.stores.specs.Halves.{half_at}
use Rattle.stores.specs.Packed.{scaled, signed_half}
use Rattle.stores.specs.HalvesLemmas.{read_packed}
use Rattle.stores.proofs.packed.PackedStore.read.Goals as goal

-- what `get` gives, copied, is the element
got : (bytes : List ℕ) (i : ℕ) (r : Option (Bor ℕ)) → IsItemAt bytes i r → option_copied r ≡ slice_get bytes i
got bytes i r h = grind (arith, gets)

pub returns : goal.returns
returns c =
    let bytes = vec_items c.args.self.now.bytes in
    let shift = c.args.self.now.shift.bits in
    let byte : c.copied.result ≡ slice_get bytes (c.args.place / 2) = c.copied.ensures ∙ got c.deref.result.now (c.args.place / 2) c.get.result c.get.ensures.lookup ∙ ap (λ bs. slice_get bs (c.args.place / 2)) c.deref.ensures.value in
    let shown : c.map.result ≡ option_map (λ b. scaled shift (signed_half (half_at b c.args.place))) c.copied.result = search (rules, tests) in
    shown ∙ sym (rw byte (read_packed shift bytes c.args.place))
