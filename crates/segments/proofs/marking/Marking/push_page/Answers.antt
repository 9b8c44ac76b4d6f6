use Rattle.std.proofs.Common.{◌+◌, ◌++◌, ◌∙◌, ℕ, List, ap, subst, refl}
use Rattle.std.specs.Prelude.{Ok}
use Rattle.segments.specs.Marks.{mark_bytes}
use Rattle.segments.specs.Marking.{MarkingState, PushesPage}
use Rattle.segments.proofs.Pushes.{page_pushed}
use Rattle.segments.proofs.marking.Marking.push_page.Goals as goal

pub returns : goal.returns
returns c =
    let page = c.args.page.now in
    let end = c.page_end-end.result in
    let s : MarkingState = record {
      page_size = c.self.inside.page_size;
      pages = c.self.inside.pages;
      marks = c.self.inside.marks.items;
      before = c.self.inside.before;
      skip = c.self.inside.skip;
      is_cut = c.self.inside.is_cut;
    } in
    let t : MarkingState = record {
      page_size = c.self.inside.page_size;
      pages = c.self.inside.pages + 1;
      marks = c.extend_from_slice.new.self.items;
      before = c.self.inside.before + end.frames;
      skip = end.skip;
      is_cut = end.is_cut;
    } in
    let mark = c.bytes_of_mark.ensures ∙ ap (λ (n : ℕ). mark_bytes (record { before = c.self.inside.before; skip = n })) c.min.ensures in
    let listed = c.in_ok-extend_from_slice.ensures.items ∙ ap (λ (l : List ℕ). c.self.inside.marks.items ++ l) mark in
    subst (λ (v : MarkingState). PushesPage {E = ℕ} page v t (Ok tt)) c.self.view_is (
      refl,
      refl,
      λ content marked paged. page_pushed content page s t c.first_begin-first.result end.frames end.skip end.is_cut c.first_begin-first.ensures.first c.requires.some c.page_end-end.ensures.passes
          refl refl listed refl refl refl marked paged,
    )
