-- The paths of a transport's names aren't too long.
use Rattle.std.proofs.Common.{◌≡◌, ℕ, ◌+◌, ◌≤◌, false, nat_lt, Some, List, ◌++◌, codes, length, refl, arith, length-append}
use Rattle.std.proofs.lemmas.Bool.Decides.{nat_tests}
use Rattle.cal_names.specs.ConceptSettings.{ConceptSettings, settings_of, type_part}
use Rattle.cal_names.specs.TypeHash.{type_hash_of, length-type_hash_of}
use Rattle.cal_names.specs.declared.path_parts.PathParts.{PathParts}
use Rattle.cal_storage.specs.Refusals.{is_too_long}

not_above : (n : ℕ) → n ≤ 255 → nat_lt 255 n ≡ false
not_above n small = grind (arith, nat_tests)

pub fits_path : (parts : PathParts) (type_name name : List ℕ) →
    length parts.prefix + length name + length parts.suffix ≤ 227 →
    is_too_long (settings_of parts (Some type_name)) name ≡ false
fits_path parts type_name name small =
    let front : List ℕ = parts.prefix ++ type_part (Some type_name) in
    let whole = length-append (front ++ name) parts.suffix in
    let named = length-append front name in
    let begun = length-append parts.prefix (type_part (Some type_name)) in
    let typed = length-append (type_hash_of type_name) (codes "_") in
    let hash = length-type_hash_of type_name in
    let one : length (codes "_") ≡ 1 = refl in
    not_above (length ((front ++ name) ++ parts.suffix)) (omega arith)
