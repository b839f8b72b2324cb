mod Keeping
mod Origins
