-- What the definitions of supertypes, resolution and selection give for a few classes, computed.
use Rattle.std.proofs.Common.{refl}
use Rattle.jv_base.specs.Types.{field_text, method_text, result_text, base_text}
use Rattle.lib_table.specs.Library.{library}
use Rattle.class_pool.specs.rows.LinkRows.{SupertypeRows, FieldRows, ClassMethodRows, SuperinterfaceMethodRows}
use Rattle.class_pool.specs.rows.LinkRows.{InterfaceMethodRows, PackageRows, ClassAccessRows, MemberAccessRows}
use Rattle.class_pool.specs.rows.LinkRows.{ProtectedRows, OverridingRows, NotOverridingRows, InterfaceSelectionRows}
use Rattle.class_pool.specs.rows.LinkRows.{SpecialRows}
use Rattle.class_pool.specs.Walk.{each_once, upwards, walked}

pub supertypes : SupertypeRows
unfolding library each_once upwards walked field_text base_text method_text result_text
supertypes = (refl, refl, refl, refl, refl)

pub fields : FieldRows
unfolding library each_once upwards walked field_text base_text method_text result_text
fields = (refl, refl, refl, refl, refl)

pub class_methods : ClassMethodRows
unfolding library each_once upwards walked field_text base_text method_text result_text
class_methods = (refl, refl, refl, refl, refl, refl)

pub superinterface_methods : SuperinterfaceMethodRows
unfolding library each_once upwards walked field_text base_text method_text result_text
superinterface_methods = (refl, refl, refl, refl, refl)

pub interface_methods : InterfaceMethodRows
unfolding library each_once upwards walked field_text base_text method_text result_text
interface_methods = (refl, refl, refl, refl, refl, refl)

pub packages : PackageRows
unfolding library each_once upwards walked field_text base_text method_text result_text
packages = (refl, refl, refl)

pub class_access : ClassAccessRows
unfolding library each_once upwards walked field_text base_text method_text result_text
class_access = (refl, refl, refl, refl)

pub member_access : MemberAccessRows
unfolding library each_once upwards walked field_text base_text method_text result_text
member_access = (refl, refl, refl, refl, refl)

pub protected : ProtectedRows
unfolding library each_once upwards walked field_text base_text method_text result_text
protected = (refl, refl, refl, refl, refl, refl)

pub overriding : OverridingRows
unfolding library each_once upwards walked field_text base_text method_text result_text
overriding = (refl, refl, refl, refl, refl, refl)

pub not_overriding : NotOverridingRows
unfolding library each_once upwards walked field_text base_text method_text result_text
not_overriding = (refl, refl, refl, refl, refl)

pub interface_selection : InterfaceSelectionRows
unfolding library each_once upwards walked field_text base_text method_text result_text
interface_selection = (refl, refl, refl, refl, refl, refl)

pub special : SpecialRows
unfolding library each_once upwards walked field_text base_text method_text result_text
special = (refl, refl, refl)
