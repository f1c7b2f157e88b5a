-- A text of images is read as the head of its sizes, its depth and its images, if depths up to that
-- one are read; and what is so read is a text of images. Up to 8 bits each header has three lines,
-- above 8 bits it is as Netpbm writes it.
use Rattle.ffv1_y4m.proofs.ImageTexts.{all_images_found, all_spelled_found, images_lined}
use Rattle.ffv1_y4m.proofs.ImageTexts.{lined_images}
use Rattle.ffv1_y4m.proofs.ImagesRead.{all_images_read, all_spelled_read}
use Rattle.ffv1_y4m.proofs.laws.text_is_read_as_its_images.Goals as goal

pub returns : goal.returns
returns c = record {
  found = all_images_found;
  only = all_images_read;
  spelled = all_spelled_found;
  told = all_spelled_read;
  same = lined_images;
  lined = images_lined;
}
