-- Names: how they are spelled, what a block declares, and what a name denotes where it is used (ISO 7185, 6.1.1 and 6.2.2).
use Rattle.std.specs.Prelude.{ℕ, ◌&&◌, nat_le, List, [], ◌∷◌, length, slice_range, Option, Some, None, is_some, if◌then◌else◌}
use Rattle.std.specs.Str.{bytes_eq, str_to_ascii_lowercase}
use Rattle.px_base.specs.declared.place.Span.{Span}
use Rattle.pas_check.specs.declared.meaning.Meaning.{Meaning}
use Rattle.pas_check.specs.declared.scope.Declaration.{Declaration}

-- a name is its letters, digits and underscores in lower case, since upper and lower case are equal
abbrev pub Name : Type 0
Name = List ℕ

-- the bytes of a span of the text; a span that does not lie in it has none
abbrev pub spelling : List ℕ → Span → List ℕ
spelling text span = if nat_le span.start span.end && nat_le span.end (length text) then slice_range text span.start span.end else []

-- the name that stands at a span
abbrev pub name_at : List ℕ → Span → Name
name_at text span = str_to_ascii_lowercase (spelling text span)

-- What a block declares: pairs of a name and its first declaration, which has a meaning once it has ended.
abbrev pub Names : Type 0
Names = List (Name × Declaration)

-- the declaration of a name in a block
abbrev pub found_in : Name → Names → Option Declaration
found_in name [] = None
found_in name (d ∷ ds) = if bytes_eq name d.0 then Some d.1 else found_in name ds

abbrev pub nearest : Option Declaration → Option Declaration → Option Declaration
nearest None around = around
nearest (Some d) around = Some d

-- what a name denotes: its declaration in the innermost block around that declares it anywhere (the innermost block stands first)
abbrev pub denoted : Name → List Names → Option Declaration
denoted name [] = None
denoted name (block ∷ around) = nearest (found_in name block) (denoted name around)

-- the block declares the name at a place, if it does not do so before
abbrev pub with_meaning : Name → Declaration → Names → Names
with_meaning name d [] = (name, d) ∷ []
with_meaning name d (e ∷ es) = if bytes_eq name e.0 then (e.0, d) ∷ es else e ∷ with_meaning name d es

abbrev pub noted : Name → ℕ → Names → Names
noted name at names = if is_some (found_in name names) then names else with_meaning name (record { at = at; meaning = None }) names

-- the declaration of the name that stands at a place has ended, and gives it a meaning
abbrev pub ended : Name → ℕ → Meaning → Names → Names
ended name at meaning names = with_meaning name (record { at = at; meaning = Some meaning }) names

-- the names at these spans, in their order
abbrev pub noted_all : List ℕ → List Span → Names → Names
noted_all text [] names = names
noted_all text (span ∷ spans) names = noted_all text spans (noted (name_at text span) span.start names)
