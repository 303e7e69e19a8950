use Rattle.std.proofs.Common.{◌≡◌, Some, sym, refl, ap, ◌∙◌, subst, w16, SFits, to_z, of_z, rules}
use Rattle.std.proofs.lemmas.Int.{to_z-of_z}
use Rattle.stores.specs.Tables.{Put}
use Rattle.stores.specs.Stores.{read_at}
use Rattle.stores.specs.Overlays.{wrote_entry, wrote_other}
use Rattle.stores.proofs.overlay.OverlayStore.write.Goals as goal

pub returns-then-value-entry : goal.returns-then-value-entry
returns-then-value-entry g c =
    let self = c.args.self.now in
    let below = g.S.Store.meaning self.below in
    let entry = c.in_ok-entry.entry in
    let fits : SFits w16 entry = search rules in
    let is : entry ≡ c.args.value = sym (to_z-of_z w16 entry fits) ∙ ap (to_z w16) (sym c.if-value-entry.true) ∙ to_z-of_z w16 c.args.value c.ranges.value in
    let read : read_at below.entries c.args.place ≡ Some entry = sym c.read.ensures ∙ c.in_ok-entry.ensures.ok_part in
    let wrote = wrote_entry below self.table.slots c.remove.new.self.slots c.args.place entry c.args.value read is c.remove.ensures in
    record { written = wrote.0; below = refl; table = wrote.1 }

pub returns : goal.returns
returns g c =
    let self = c.args.self.now in
    let below = g.S.Store.meaning self.below in
    let entry = c.in_ok-entry.entry in
    let slots = c.put.new.self.slots in
    let put = subst (λ v. Put c.args.place v self.table.slots c.put.result slots) (to_z-of_z w16 c.args.value c.ranges.value) c.put.ensures in
    let read : read_at below.entries c.args.place ≡ Some entry = sym c.read.ensures ∙ c.in_ok-entry.ensures.ok_part in
    let wrote = wrote_other below self.table.slots slots c.args.place entry c.args.value read (λ is. c.if-value-entry.false (ap (of_z w16) (sym is))) c.put.result put in
    record { written = wrote.0; below = refl; table = wrote.1 }
