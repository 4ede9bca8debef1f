mod DecodeLaws
