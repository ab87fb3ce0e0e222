-- Looking a name up among files.
use Rattle.std.proofs.Common.{◌≡◌, ℕ, ◌+◌, ◌<◌, true, List, [], length, drop, min, get_or, Option, Some, Vec, arith, string_bytes}
use Rattle.std.specs.Prelude.{String}
use Rattle.std.specs.Str.{bytes_eq}
use Rattle.std.specs.declared.alloc.Global.{Global}
use Rattle.std.proofs.lemmas.Grind.{common_steps}
use Rattle.std.proofs.lemmas.List.{drop_more, drop-drop, drop_min, get_or-map}
use Rattle.px_base.specs.Memory.{file_named}
use Rattle.px_base.specs.Named.{named, bytes_of, rest_of}

-- a file that has the name is the first with it from its index on
pub file_named_from : (files : List (String Global × Vec ℕ Global)) (i : ℕ) (file : String Global × Vec ℕ Global) (name : List ℕ) →
    i < length files → file ≡ get_or files i file → bytes_eq (string_bytes file.0) name ≡ true →
    file_named (named (drop i files)) name ≡ Some (bytes_of files i)
file_named_from files i file name below is same =
    let bytes = get_or-map (λ f. f.1.items) files i file [] below in
    rw (drop_more files i file below) (grind (arith, common_steps))

-- what is left of the file at an index
pub rest_of-Some : (files : List (String Global × Vec ℕ Global)) (picked : Option ℕ) (i at : ℕ) (file : String Global × Vec ℕ Global) →
    picked ≡ Some i → i < length files → file ≡ get_or files i file →
    rest_of files picked at ≡ drop at file.1.items
rest_of-Some files picked i at file at_i below is =
    let bytes = get_or-map (λ f. f.1.items) files i file [] below in
    rw at_i (grind (arith, common_steps))

-- what a read of n bytes leaves of the file at an index
pub rest_of_read : (files : List (String Global × Vec ℕ Global)) (picked : Option ℕ) (i at n size : ℕ) (file : String Global × Vec ℕ Global) →
    picked ≡ Some i → i < length files → file ≡ get_or files i file → n ≡ min size (length (drop at file.1.items)) →
    rest_of files picked (at + n) ≡ drop size (rest_of files picked at)
rest_of_read files picked i at n size file at_i below is count =
    let before = rest_of-Some files picked i at file at_i below is in
    let after = rest_of-Some files picked i (at + n) file at_i below is in
    let further = drop-drop n at file.1.items in
    let past : drop n (drop at file.1.items) ≡ drop size (drop at file.1.items) = rw count (drop_min size (drop at file.1.items)) in
    cc
