use Rattle.std.proofs.Common.{◌≡◌, ◌<◌, ◌≤◌, Ok, length, arith, rules, ap, ◌∙◌, length-append}
use Rattle.cal_names.specs.FilePath.{file_name_part}
use Rattle.cal_names.specs.ConceptSettings.{ConceptSettings, settings_of, file_name_for, file_path_for}
use Rattle.cal_names.proofs.NamePathLemmas.{is_file_name_for, stands_for, stands_for_none}
use Rattle.cal_names.proofs.name_paths.path_of_name.Goals as goal

pub unwrap-file_name-requires : goal.unwrap-file_name-requires
unwrap-file_name-requires c =
    let settings : ConceptSettings = settings_of c.args.parts.now c.args.type_name in
    let fits : length (file_name_for settings c.args.name.now) ≤ 255 = search rules in
    let rule = is_file_name_for settings c.args.name.now c.as_bytes-prefix.ensures.rule c.as_bytes-name.ensures.rule
    c.as_bytes-suffix.ensures.rule fits in
    search rules

pub returns-clause-inverse : goal.returns-clause-inverse
returns-clause-inverse c = λ other is_path.
    let settings : ConceptSettings = settings_of c.args.parts.now c.args.type_name in
    let file : file_name_part c.from_parts.result ≡ file_name_for settings c.args.name.now = search rules in
    let made : c.from_parts.result ≡ file_path_for settings c.args.name.now = search rules in
    let told = stands_for settings c.from_parts.result other c.args.name.now c.as_bytes-name.ensures.rule
    c.from_parts.ensures.path file made is_path in
    (λ found. ap (λ p. Ok p) (told.0 found), λ same. told.1 (cc))

pub returns-then-prefix-between-gt255-clause-inverse : goal.returns-then-prefix-between-gt255-clause-inverse
returns-then-prefix-between-gt255-clause-inverse c = λ other is_path.
    let settings : ConceptSettings = settings_of c.args.parts.now c.args.type_name in
    let prefix = ap length c.as_bytes-prefix.ensures.bytes in
    let between = ap length (c.as_bytes-between.ensures.bytes ∙ c.type_part-between.ensures) in
    let name = ap length c.as_bytes-name.ensures.bytes in
    let suffix = ap length c.as_bytes-suffix.ensures.bytes in
    let long : 255 < length (file_name_for settings c.args.name.now) =
    simp length-append (omega (arith, c.if-prefix-between-gt255.true, prefix, between, name, suffix)) in
    (λ found. absurd (stands_for_none settings other c.args.name.now long is_path found), λ same. absurd (cc))
