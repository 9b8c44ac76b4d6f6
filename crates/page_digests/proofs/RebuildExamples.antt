-- The levels of "abc" are built again from its file, by pages of 32 bytes.
use Rattle.std.proofs.Common.{◌≡◌, ◌≤◌, ◌++◌, ◌∷◌, ◌∙◌, [], ℕ, List, length, get_or}
use Rattle.std.proofs.Common.{refl, ap, sym, subst, arith, lit<}
use Rattle.std.specs.Prelude.{codes, Ok, Err}
use Rattle.std.specs.declared.io.Error.{Error as IoError}
use Rattle.std.proofs.lemmas.List.{same_from_push, take_all}
use Rattle.std.proofs.lemmas.Option.{same_Some}
use Rattle.page_digests.specs.declared.error.Error.TheVariants.{Damaged, System}
use Rattle.page_digests.specs.declared.levels.Levels.{Levels}
use Rattle.page_digests.specs.Pages.{content_page, root_of}
use Rattle.page_digests.specs.Rebuilds.{GivesAll, RebuildGoes, page_reads}
use Rattle.page_digests.specs.Seals.{AreLevelsOf}
use Rattle.page_digests.specs.Sources.{SourceRead, gave, refused}
use Rattle.page_digests.proofs.PageExamples.{first}
use Rattle.page_digests.proofs.SealExamples.{abc, abc_is_bytes, its_digest, its_levels, its_seal, levels_without_a_list, xyz, xyz_is_bytes}

-- "abcdef" by pages of four bytes
pub in_two_pages : page_reads 4 (codes "abcdef") 2 ≡ gave 0 (codes "abcd") ∷ gave 16 (codes "ef") ∷ []
in_two_pages = refl

pub by_its_logical_places : page_reads 4 (codes "abcdef") 2 ≡ gave 0 (codes "abcd") ∷ gave 4 (codes "ef") ∷ [] → ⊥
by_its_logical_places same =
    omega (arith, ap (λ (r : SourceRead). r.offset) (same_from_push (gave 0 (codes "abcd") ∷ []) (gave 0 (codes "abcd") ∷ []) (gave 16 (codes "ef")) (gave 4 (codes "ef")) same).1)

pub its_file_gives_it : GivesAll 32 3 [] (gave 0 abc ∷ []) abc
its_file_gives_it = record { len = refl; are_bytes = abc_is_bytes; reads = refl }

-- what is given by a file that holds one page
given : (x bytes : List ℕ) → GivesAll 32 3 [] (gave 0 x ∷ []) bytes → bytes ≡ x
given x bytes gives =
    let fits : length bytes ≤ 32 = omega (arith, gives.len) in
    sym (take_all 32 bytes fits) ∙ sym (same_Some x (content_page 32 0 bytes) (ap (λ (r : SourceRead). r.given) (same_from_push [] [] (gave 0 x) (gave 0 (content_page 32 0 bytes)) gives.reads).1))

pub it_gives_another : GivesAll 32 3 [] (gave 0 abc ∷ []) xyz → ⊥
it_gives_another gives = omega (arith, ap (λ (l : List ℕ). get_or l 0 0) (given abc xyz gives))

-- a page that wasn't read is not given
pub unread : (bytes : List ℕ) → GivesAll 32 3 [] [] bytes → ⊥
unread bytes gives = omega (arith, ap length gives.reads)

pub they_are_built : (l : Levels) → l.list.items ≡ its_digest → l.top.items ≡ its_digest → l.root ≡ its_digest → RebuildGoes first 32 its_seal [] (gave 0 abc ∷ []) (Ok l)
they_are_built l list top root = (abc, its_file_gives_it, refl, its_levels l list top root)

pub without_a_list : (l : Levels) → l.list.items ≡ [] → RebuildGoes first 32 its_seal [] (gave 0 abc ∷ []) (Ok l) → ⊥
without_a_list l none (bytes, gives, root, are) =
    levels_without_a_list l none (subst (λ (b : List ℕ). AreLevelsOf first 32 b l) (given abc bytes gives) are)

-- the file holds another content
pub xyz_has_another_root : RebuildGoes first 32 its_seal [] (gave 0 xyz ∷ []) (Err Damaged)
xyz_has_another_root = (xyz, record { len = refl; are_bytes = xyz_is_bytes; reads = refl }, λ same. omega (arith, ap (λ (l : List ℕ). get_or l 0 0) same))

pub of_another_content : (l : Levels) → RebuildGoes first 32 its_seal [] (gave 0 xyz ∷ []) (Ok l) → ⊥
of_another_content l (bytes, gives, root, are) =
    omega (arith, ap (λ (l : List ℕ). get_or l 0 0) (sym (ap (root_of first 32) (given xyz bytes gives)) ∙ root))

pub abc_has_its_root : RebuildGoes first 32 its_seal [] (gave 0 abc ∷ []) (Err Damaged) → ⊥
abc_has_its_root (bytes, gives, differ) = differ (ap (root_of first 32) (given abc bytes gives))

pub it_was_refused : (e : IoError) → RebuildGoes first 32 its_seal [] (refused 0 3 ∷ []) (Err (System e))
it_was_refused e = (0, lit< tt, ([], refl))

pub nothing_was_refused : (e : IoError) → RebuildGoes first 32 its_seal [] (gave 0 xyz ∷ []) (Err (System e)) → ⊥
nothing_was_refused e (i, within, (more, same)) =
    cc (ap (λ (r : SourceRead). r.given) (same_from_push [] ([] ++ more) (gave 0 xyz) (refused _ _) same).1)
