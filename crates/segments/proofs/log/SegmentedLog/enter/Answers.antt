use Rattle.std.proofs.Common.{◌∙◌, ap, refl, sym, subst}
use Rattle.std.specs.Prelude.{◌≡◌, Err, Ok, Some}
use Rattle.segments.specs.Log.{IsLog, LogState}
use Rattle.std.specs.Int.NonZero.{non_zero_u16_get}
use Rattle.segments.specs.Manifest.{listed_with, padded}
use Rattle.segments.specs.Owned.{OwnedAddGoes, OwnedAddKeeps}
use Rattle.segments.proofs.Entering.{enter_failed, enter_ready, entered_goes, entry_tried, not_entered}
use Rattle.segments.proofs.log.SegmentedLog.enter.Goals as goal

pub returns-in-Ok-clause-goes : goal.returns-in-Ok-clause-goes
returns-in-Ok-clause-goes g c =
    let sum = g.H.Sum.sum_of in
    let own = g.R.Sum.sum_of in
    entered_goes sum own c.args.entry.now c.in_ok-bytes.bytes.items _ c.args.self.now c.keep.new.self c.in-Some.listing c.add.new.self _ c.self.view_is
    (c.in_ok-bytes.ensures.bytes ∙ ap (λ n. padded (non_zero_u16_get c.self.inside.options.page_size) n c.args.entry.now) c.size-size.ensures)
    (subst (λ P. listed_with P c.args.entry.now c.self.inside.listing ≡ Some c.in-Some.listing) c.get.ensures.value (sym c.in_ok-listing.ensures ∙ c.in-Some.is))
    (subst (λ bytes. OwnedAddGoes sum own bytes c.self.inside.manifest c.add.new.self (Ok tt)) c.deref.ensures.value c.in-Ok.ensures.goes)
    c.known_with-self-inside.ensures c.keep.ensures.has

pub returns-in-Ok-clause-ready : goal.returns-in-Ok-clause-ready
returns-in-Ok-clause-ready g c =
    let sum = g.H.Sum.sum_of in
    let own = g.R.Sum.sum_of in
    let log = subst (λ s. IsLog sum own s) (sym c.self.view_is) c.requires.log in
    c.keep.ensures.ready (enter_ready sum own c.args.entry.now c.in_ok-bytes.bytes.items _ c.in-Some.listing c.add.new.self _ tt log c.add.ensures.ready c.add.ensures.page_size
    c.in_ok-bytes.ensures.told
    (subst (λ P. listed_with P c.args.entry.now c.self.inside.listing ≡ Some c.in-Some.listing) c.get.ensures.value (sym c.in_ok-listing.ensures ∙ c.in-Some.is))
    (subst (λ bytes. OwnedAddGoes sum own bytes c.self.inside.manifest c.add.new.self (Ok tt)) c.deref.ensures.value c.in-Ok.ensures.goes))

pub returns-clause-goes : goal.returns-clause-goes
returns-clause-goes g c =
    let sum = g.H.Sum.sum_of in
    let own = g.R.Sum.sum_of in
    not_entered sum own c.args.entry.now c.in_ok-bytes.bytes.items _ c.args.self.now c.add.new.self c.in-Err.error c.self.view_is
    (subst (λ bytes. OwnedAddGoes sum own bytes c.self.inside.manifest c.add.new.self (Err c.in-Err.error)) c.deref.ensures.value c.in-Err.ensures.goes)

pub returns-clause-ready : goal.returns-clause-ready
returns-clause-ready g c =
    let sum = g.H.Sum.sum_of in
    let own = g.R.Sum.sum_of in
    let log = subst (λ s. IsLog sum own s) (sym c.self.view_is) c.requires.log in
    enter_failed sum own c.in_ok-bytes.bytes.items _ c.add.new.self c.in-Err.error log c.add.ensures.ready c.add.ensures.page_size
    (subst (λ bytes. OwnedAddGoes sum own bytes c.self.inside.manifest c.add.new.self (Err c.in-Err.error)) c.deref.ensures.value c.in-Err.ensures.goes)

pub returns-in-Ok-clause-tries : goal.returns-in-Ok-clause-tries
returns-in-Ok-clause-tries g c =
    let sum = g.H.Sum.sum_of in
    let own = g.R.Sum.sum_of in
    let log = subst (λ s. IsLog sum own s) (sym c.self.view_is) c.requires.log in
    entry_tried sum own c.args.entry.now c.in_ok-bytes.bytes.items _ c.args.self.now _ c.in-Some.listing c.add.new.self (ap (λ (l : LogState). l.manifest) c.keep.ensures.has.rest) c.self.view_is (c.in_ok-bytes.ensures.bytes ∙ ap (λ n. padded (non_zero_u16_get c.self.inside.options.page_size) n c.args.entry.now) c.size-size.ensures)
    c.in_ok-bytes.ensures.told
    (subst (λ P. listed_with P c.args.entry.now c.self.inside.listing ≡ Some c.in-Some.listing) c.get.ensures.value (sym c.in_ok-listing.ensures ∙ c.in-Some.is))
    log.manifest_pages
    (subst (λ bytes. OwnedAddKeeps sum own bytes c.self.inside.manifest c.add.new.self) c.deref.ensures.value c.add.ensures.added)

pub returns-clause-tries : goal.returns-clause-tries
returns-clause-tries g c =
    let sum = g.H.Sum.sum_of in
    let own = g.R.Sum.sum_of in
    let log = subst (λ s. IsLog sum own s) (sym c.self.view_is) c.requires.log in
    entry_tried sum own c.args.entry.now c.in_ok-bytes.bytes.items _ c.args.self.now _ c.in-Some.listing c.add.new.self refl c.self.view_is (c.in_ok-bytes.ensures.bytes ∙ ap (λ n. padded (non_zero_u16_get c.self.inside.options.page_size) n c.args.entry.now) c.size-size.ensures)
    c.in_ok-bytes.ensures.told
    (subst (λ P. listed_with P c.args.entry.now c.self.inside.listing ≡ Some c.in-Some.listing) c.get.ensures.value (sym c.in_ok-listing.ensures ∙ c.in-Some.is))
    log.manifest_pages
    (subst (λ bytes. OwnedAddKeeps sum own bytes c.self.inside.manifest c.add.new.self) c.deref.ensures.value c.add.ensures.added)
