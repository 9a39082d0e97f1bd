-- `text_record::linedef_of` meets its contract: field by field, each as what it holds. Assumes nothing.
use mir.Syntax.{w32}
use mir.ValLaws.{to_z-of_z}
use Rattle.text_record.proofs.Whole.{whole_by}
use Rattle.text_table.specs.Table.{linedef_fields, default_of}
use mathlib.Core.List.{map}
use Rattle.text_table.specs.Rows.{row_of}
use Rattle.text_table.specs.Names.{every}
use Rattle.text_record.proofs.linedef_of.Goals as goal

pub returns : goal.returns
unfolding linedef_fields every
returns c =
    let text = c.args.text.now in
    let places = c.args.places.now in
    let defaults = default_of (map row_of c.args.fields.now) in
    let id = to_z-of_z w32 c.args.id c.ranges.id in
    λ i. record {
      id = whole_by text places defaults 0 c.whole_field.type_inv c.whole_field.ensures id i;
      v1 = whole_by text places defaults 1 c.whole_field-2.type_inv c.whole_field-2.ensures id i;
      v2 = whole_by text places defaults 2 c.whole_field-3.type_inv c.whole_field-3.ensures id i;
      blocking = c.flag_field.ensures i;
      blockmonsters = c.flag_field-2.ensures i;
      twosided = c.flag_field-3.ensures i;
      dontpegtop = c.flag_field-4.ensures i;
      dontpegbottom = c.flag_field-5.ensures i;
      secret = c.flag_field-6.ensures i;
      blocksound = c.flag_field-7.ensures i;
      dontdraw = c.flag_field-8.ensures i;
      mapped = c.flag_field-9.ensures i;
      passuse = c.flag_field-10.ensures i;
      translucent = c.flag_field-11.ensures i;
      jumpover = c.flag_field-12.ensures i;
      blockfloaters = c.flag_field-13.ensures i;
      playercross = c.flag_field-14.ensures i;
      playeruse = c.flag_field-15.ensures i;
      monstercross = c.flag_field-16.ensures i;
      monsteruse = c.flag_field-17.ensures i;
      impact = c.flag_field-18.ensures i;
      playerpush = c.flag_field-19.ensures i;
      monsterpush = c.flag_field-20.ensures i;
      missilecross = c.flag_field-21.ensures i;
      repeatspecial = c.flag_field-22.ensures i;
      special = whole_by text places defaults 25 c.whole_field-4.type_inv c.whole_field-4.ensures id i;
      arg0 = whole_by text places defaults 26 c.whole_field-5.type_inv c.whole_field-5.ensures id i;
      arg1 = whole_by text places defaults 27 c.whole_field-6.type_inv c.whole_field-6.ensures id i;
      arg2 = whole_by text places defaults 28 c.whole_field-7.type_inv c.whole_field-7.ensures id i;
      arg3 = whole_by text places defaults 29 c.whole_field-8.type_inv c.whole_field-8.ensures id i;
      arg4 = whole_by text places defaults 30 c.whole_field-9.type_inv c.whole_field-9.ensures id i;
      sidefront = whole_by text places defaults 31 c.whole_field-10.type_inv c.whole_field-10.ensures id i;
      sideback = whole_by text places defaults 32 c.whole_field-11.type_inv c.whole_field-11.ensures id i;
      comment = c.string_field.ensures i;
    }
