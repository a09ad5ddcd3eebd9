-- One name that opens every definition, for what is proved by computation.
use Rattle.std.specs.Prelude.{ℕ}
use Rattle.meaning.specs.Utf8.{character, valid_for}
use Rattle.meaning.specs.Peg.{many, run}
use Rattle.meaning.specs.Forest.{many_o, eval, nodes}
use Rattle.meaning.specs.Pdl.{rules}
use Rattle.meaning.specs.Places.{fold, moved, starts_from}
use Rattle.meaning.specs.Convert.{digits}
use Rattle.meaning.specs.Tables.{rows_of, first_bad, put, puts, flat, rows_in}
use Rattle.meaning.specs.Walk.{each, numbers, constraint_number, constraint_row, parse_constraint_list, tag_row, parse_enum_value, parse_enum_range, parse_enum_other, parse_enum_tag, describe, parse_field, parse_field_list, parse_declaration, parse_toplevel, comments}
use Rattle.meaning.specs.Reading.{unmatched, walked, reading, answer}
use Rattle.meaning.specs.Alignment.{sound, due, bits_number, bytes_number, dyn_number, end_number, bits_done, chunk_done, call, calls, numbers as aligner-numbers}
use Rattle.meaning.specs.Feeding.{feed_field, feed_fields, feed_number, layout}

unfoldable pub everything : ℕ
unfolding character valid_for many run many_o eval nodes rules fold moved starts_from digits rows_of first_bad put puts flat rows_in each
    numbers constraint_number constraint_row parse_constraint_list tag_row parse_enum_value parse_enum_range parse_enum_other parse_enum_tag
    describe parse_field parse_field_list parse_declaration parse_toplevel comments unmatched walked reading answer sound due bits_number
    bytes_number dyn_number end_number bits_done chunk_done call calls aligner-numbers feed_field feed_fields feed_number layout
everything = 0
